use Rattle.dm_prim.proofs.touched.Touched.glance.Goals as goal

pub returns : goal.returns
returns g c = λ ps h.
    let t = rw (← c.self.view_is) at h in
    record {
      valid = t.valid;
      paths = c.self.inside.paths.items;
      touched = λ f u. (t.paths f).1 u;
      covers = c.self.invariant;
      moves = t.works.0;
    }
