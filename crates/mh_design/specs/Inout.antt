-- An `@always_comb` that reads a signal which it drives (refused, since its own assignments would wake it): this is this project's own
-- rule. Elements of memories are signals here.
use Rattle.std.specs.Prelude.{ℕ, ◌≡◌, Bool, true, false, ◌&&◌, ◌==◌, List, [], ◌∷◌, Option, Some, None, if◌then◌else◌, Result, Ok, Err}
use Rattle.std.specs.List.{list_any}
use Rattle.mh_text.specs.declared.code.Code.TheVariants.{C7Inout}
use Rattle.mh_text.specs.declared.refusal.Refusal.{Refusal}
use Rattle.mh_text.specs.declared.refusal.Refusal.TheVariants as refusal
use Rattle.mh_design.specs.declared.design.Design.{Design}
use Rattle.mh_design.specs.declared.design.Generator.{Generator}
use Rattle.mh_design.specs.declared.design.GenKind.{GenKind}
use Rattle.mh_design.specs.declared.design.GenKind.TheVariants as generator
use Rattle.mh_design.specs.Uses.{reads, drives}

abbrev pub is_among : List ℕ → ℕ → Bool
is_among xs s = list_any (λ x. x == s) xs

abbrev pub is_comb : GenKind → Bool
is_comb generator.Comb = true
is_comb k = false

abbrev pub is_inout : Design → Generator → Bool
is_inout d g = is_comb g.kind && list_any (is_among (drives d g)) (reads d g)

-- The line of the first of these generators that is one.
abbrev pub first_inout : Design → List Generator → Option ℕ
first_inout d [] = None
first_inout d (g ∷ gs) = if is_inout d g then Some g.line else first_inout d gs

-- The refusal with that line, exactly where there is one. Want of memory is free.
abbrev pub Answers : Option ℕ → Result (Unit {0}) Refusal → Type 0
Answers l (Ok u) = l ≡ None
Answers l (Err (refusal.At code line names)) = (l ≡ Some line) × (code ≡ C7Inout) × (names ≡ [])
Answers l (Err refusal.Memory) = Unit {0}
