use Rattle.std.proofs.Common.{◌≡◌, ℕ, ◌+◌, ◌<◌, Bool, false, ◌||◌, drop, length}
use Rattle.std.specs.Prelude.{slice_index_or, ◌==◌}
use Rattle.std.specs.List.{list_any}
use Rattle.mh_design.proofs.sizes.mark_cells.Given as goal

abbrev pub invariant-loop-c : goal.invariant-loop-c
invariant-loop-c l =
    record {
      size : length l.marks ≡ length l.fn.marks;
      marks : (k : ℕ) → k < length l.marks → (slice_index_or l.fn.marks k false || list_any (λ c. c == l.first + k) l.cells) ≡ (slice_index_or l.marks k false || list_any (λ c. c == l.first + k) (drop l.c-index l.cells));
    }
