-- At which times something happens by itself, as a set: this project's own rule.
use Rattle.std.specs.Prelude.{ℕ, ◌≡◌, ◌≤◌, ◌<◌, ◌+◌, Bool, true, false, ◌||◌, nat_lt, List, [], ◌∷◌, Option, None, Some, if◌then◌else◌}
use Rattle.std.specs.List.{list_any}
use Rattle.mh_design.specs.declared.design.Wait.{Wait}
use Rattle.mh_design.specs.declared.design.Wait.TheVariants as wait
use Rattle.mh_design.specs.Values.{Signals}
use Rattle.mh_design.specs.Deltas.{State, Process, is_over, waiter_at}
use Rattle.mh_sched.specs.Runs.{lesser}

-- A delay that a generator waits for is over at this time.
abbrev pub some_is_over : ℕ → Signals → ℕ → List Process → Bool
some_is_over u s g [] = false
some_is_over u s g (p ∷ ps) = list_any (is_over u p.since) (waiter_at s g).waits || some_is_over u s (g + 1) ps

abbrev pub has_event : State → ℕ → Bool
has_event st u = some_is_over u st.signals 0 st.processes

-- The earliest later time that has an event.
pub record IsNext (st : State) (u : ℕ) : Type 0 where
  pub later : st.time < u
  pub event : has_event st u ≡ true
  pub first : (v : ℕ) → st.time < v → has_event st v ≡ true → u ≤ v

-- No later time has an event.
abbrev pub HasNoNext : State → Type 0
HasNoNext st = (v : ℕ) → st.time < v → has_event st v ≡ false

-- The earliest of the later ends of a generator's delays and of one that is known, by one wait after the other. It serves the look at all
-- generators for the next time.
abbrev pub with_end : ℕ → ℕ → Wait → Option ℕ → Option ℕ
with_end after since (wait.Change n) best = best
with_end after since (wait.Edge n up) best = best
with_end after since (wait.Delay k) best = if nat_lt after (since + k) then lesser (since + k) best else best

abbrev pub with_ends : ℕ → ℕ → List Wait → Option ℕ → Option ℕ
with_ends after since [] best = best
with_ends after since (w ∷ ws) best = with_ends after since ws (with_end after since w best)

-- The earlier of two times, if there is one.
abbrev pub earlier : Option ℕ → Option ℕ → Option ℕ
earlier None b = b
earlier (Some x) b = lesser x b
