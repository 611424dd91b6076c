use Rattle.std.proofs.Common.{◌≡◌, ◌≤◌, ◌≤ℤ◌, pos, drop, Some, IfSome}
use Rattle.mh_gen.specs.Total.{left_of_joined}
use Rattle.mh_gen.proofs.eval.+values.Given as goal

abbrev pub invariant-joined-loop-part : goal.invariant-joined-loop-part
invariant-joined-loop-part l =
    record { same : left_of_joined l.s (drop l.part-index l.parts) l.number l.width ≡ left_of_joined l.s l.parts (Some (pos 0)) 0; natural : IfSome l.number (λ z. pos 0 ≤ℤ z); narrow : l.width ≤ 128 }
