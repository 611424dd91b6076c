-- Marks for a block of signals: which of them are elements of memories.
use Rattle.std.proofs.Common.{◌≡◌, ℕ, ◌+◌, ◌-◌, ◌<◌, ◌≤◌, Bool, false, not, ◌||◌, List, replicate, ap, sym, ◌∙◌, arith}
use Rattle.std.specs.Prelude.{slice_index_or, if◌then◌else◌}
use Rattle.std.proofs.lemmas.List.{get_or-replicate}
use Rattle.mh_design.specs.declared.design.MemDecl.{MemDecl}
use Rattle.mh_design.specs.WellFormed.{is_in, count_below}
use Rattle.mh_design.proofs.Below.{count_below-more}

-- a mark that was set where nothing was before
pub marked : (ms : List MemDecl) (marks : List Bool) (first signal : ℕ) → first ≤ signal → signal - first < 4096 → slice_index_or marks (signal - first) false ≡ (slice_index_or (replicate 4096 false) (signal - first) false || is_in ms (first + (signal - first))) → slice_index_or marks (signal - first) false ≡ is_in ms signal
marked ms marks first signal o l e =
    let q : first + (signal - first) ≡ signal = omega (arith, o) in
    e ∙ (ap (λ b. b || is_in ms (first + (signal - first))) (get_or-replicate 4096 (signal - first) false false l) ∙ ap (is_in ms) q)

-- one more signal is counted by its mark
pub counted_next : (ms : List MemDecl) (mark : Bool) (signal count r : ℕ) → count ≡ count_below signal (λ s. not (is_in ms s)) → r ≡ count + (if not mark then 1 else 0) → mark ≡ is_in ms signal → r ≡ count_below (signal + 1) (λ s. not (is_in ms s))
counted_next ms mark signal count r e f g =
    f
    ∙ (ap (λ n. n + (if not mark then 1 else 0)) e
    ∙ (ap (λ b. count_below signal (λ s. not (is_in ms s)) + (if not b then 1 else 0)) g ∙ sym (count_below-more signal (λ s. not (is_in ms s)))))
