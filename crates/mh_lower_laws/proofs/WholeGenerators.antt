-- All that a design asks of a generator that was read.
use Rattle.std.proofs.Common.{◌≡◌, ◌≤◌, true, map, Ok, ap, sym, ◌∙◌}
use Rattle.std.proofs.lemmas.Bool.{and_parts}
use Rattle.mh_text.specs.Characters.{is_identifier}
use Rattle.mh_pytree.specs.declared.statement.FuncDef.{FuncDef, out-FuncDef}
use Rattle.mh_pytree.specs.Depth.{def_depth}
use Rattle.mh_pytree.specs.Names.{all_of, expr_names, def_names}
use Rattle.mh_pytree.proofs.NameLaws.{names-def_of}
use Rattle.mh_consts.specs.declared.scope.Scope.{Scope}
use Rattle.mh_design.specs.declared.design.Design.{Design}
use Rattle.mh_design.specs.declared.design.Generator.{Generator}
use Rattle.mh_design.specs.WellFormed.{is_name, generator_fits}
use Rattle.mh_lower.specs.Generators.{def_of, read_of, IsNamed}
use Rattle.mh_lower_laws.specs.Holds.{Holds}
use Rattle.mh_lower_laws.specs.Laws.{Fits, with_generator}
use Rattle.mh_lower_laws.proofs.GeneratorDepths.{def_deep, fits_whole}
use Rattle.mh_lower_laws.proofs.GeneratorNames.{def_named}
use Rattle.mh_lower_laws.proofs.GeneratorsFitLaws.{def_reads, read_to}
use Rattle.mh_lower_laws.proofs.NextGenerators.{holds_next}
use Rattle.mh_lower_laws.proofs.SourceNames.{identifier_is}

def_is_named : (f : FuncDef) → def_names f ≡ true → is_identifier (out-FuncDef f).name ≡ true
def_is_named f h =
    let p = and_parts (all_of (map expr_names (out-FuncDef f).marks)) _ (sym (names-def_of f) ∙ h) in
    (and_parts (is_identifier (out-FuncDef f).name) _ p.1).0

whole : (s : Scope) (f : FuncDef) (d : Design) (g : Generator) (e : Design) → def_names f ≡ true → def_depth f ≤ 199 → IsNamed f g → def_of s d f ≡ Ok (read_of g, e) → Fits e (read_of g) → generator_fits e g ≡ true
whole s f d g e n m i q l =
    fits_whole e g l
    (ap is_name i.path ∙ identifier_is (out-FuncDef f).name (def_is_named f n))
    (def_named s f d (read_of g) e n q)
    (def_deep s f d (read_of g) e 199 m q)

pub def_fits : (s : Scope) (f : FuncDef) (d : Design) (g : Generator) (e : Design) → Holds s d → def_names f ≡ true → def_depth f ≤ 199 → IsNamed f g → def_of s d f ≡ Ok (read_of g, e) → (generator_fits e g ≡ true) × Holds s (with_generator e g)
def_fits s f d g e h n m i q =
    let l = read_to s d h (def_of s d f) (read_of g) e (def_reads s d h f) q in
    let w = whole s f d g e n m i q l.gives in
    (w, holds_next s e g w l.holds)
