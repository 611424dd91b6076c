-- The kinds of a design's locals have their codes.
use Rattle.std.proofs.Common.{ℕ, zero, suc, ◌≡◌, ◌≤◌, true, ◌&&◌, List, [], ◌∷◌, length}
use Rattle.std.specs.Prelude.{slice_get, IfSome}
use Rattle.std.specs.List.{list_all}
use Rattle.std.proofs.lemmas.Bool.{leb-true}
use Rattle.mh_design.specs.declared.design.Design.{Design}
use Rattle.mh_design.specs.declared.design.EnumDecl.{EnumDecl}
use Rattle.mh_design.specs.declared.design.Kind.{Kind}
use Rattle.mh_design.specs.declared.design.Kind.TheVariants as kind
use Rattle.mh_design.specs.Enums.{encoding_width}
use Rattle.mh_design.specs.WellFormed as formed
use Rattle.mh_signals.specs.Woken.{HasCodes}
use Rattle.mh_gen.proofs.Fitting.{left, right}

narrow-at : (xs : List EnumDecl) (k : ℕ) → list_all formed.enum_fits xs ≡ true → IfSome (slice_get xs k) (λ x. encoding_width x.encoding (length x.names) ≤ 127)
narrow-at [] k h = tt
narrow-at (x ∷ xs) zero h =
    leb-true (encoding_width x.encoding (length x.names)) 127 (left (formed.enum_fits x) (list_all formed.enum_fits xs) h)
narrow-at (x ∷ xs) (suc k) h = narrow-at xs k (right (formed.enum_fits x) (list_all formed.enum_fits xs) h)

enums-fit : (d : Design) → formed.is_well_formed d ≡ true → list_all formed.enum_fits d.enums ≡ true
enums-fit d e =
    left (list_all formed.enum_fits d.enums) _ (left _ _ (right (formed.ports_fit d) (formed.declarations_fit d) (right (formed.names_fit d && formed.sizes_fit d) _ (left _ (list_all (formed.generator_fits d) d.generators) e))))

pub has_codes : (d : Design) (k : Kind) → formed.is_well_formed d ≡ true → HasCodes d k
has_codes d kind.Bool e = tt
has_codes d kind.Int e = tt
has_codes d (kind.Bits b) e = tt
has_codes d (kind.Item n) e = narrow-at d.enums n (enums-fit d e)
