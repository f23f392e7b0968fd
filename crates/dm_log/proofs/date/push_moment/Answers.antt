use Rattle.std.proofs.Common.{◌≡◌, ◌++◌, List, ℕ, append_assoc}
use Rattle.dm_log.specs.Dates.{day_text, time_text}
use Rattle.dm_log.proofs.date.push_moment.Goals as goal

joined : (s a b t u : List ℕ) → t ≡ s ++ a → u ≡ t ++ b → u ≡ s ++ (a ++ b)
joined s a b t u f g = rw (g, f) (append_assoc s a b)

pub returns : goal.returns
returns g c =
    joined c.args.out.now.items (day_text c.args.date.now) (time_text c.args.date.now) c.push_day.new.out.items c.push_time.new.out.items
    c.in_ok-push_day.ensures c.in_ok-push_time.ensures
