use Rattle.dm_files.proofs.mirror.open_store.Goals as goal

pub returns-in-Err-clause-tells : goal.returns-in-Err-clause-tells
returns-in-Err-clause-tells g c = c.of_kept.ensures.unkept (g.D.Device.seen c.args.device) c.in-Err.ensures.fault
