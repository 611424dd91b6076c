use Rattle.std.proofs.Common.{◌≡◌, ℕ, ◌+◌, ◌<◌, Bool, false, ◌||◌, drop, length}
use Rattle.std.specs.Prelude.{slice_index_or, ◌==◌}
use Rattle.std.specs.List.{list_any}
use Rattle.mh_design.proofs.sizes.mark_all.Given as goal

abbrev pub invariant-loop-m : goal.invariant-loop-m
invariant-loop-m l =
    record {
      size : length l.marks ≡ length l.fn.marks;
      marks : (k : ℕ) → k < length l.marks → (slice_index_or l.fn.marks k false || list_any (λ m. list_any (λ c. c == l.first + k) m.cells) l.mems) ≡ (slice_index_or l.marks k false || list_any (λ m. list_any (λ c. c == l.first + k) m.cells) (drop l.m-index l.mems));
    }
