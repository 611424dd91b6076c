-- A design that holds still does with one more generator that fits.
use Rattle.std.proofs.Common.{◌≡◌, true, [], ◌∷◌, ◌∙◌, refl}
use Rattle.std.specs.List.{list_all}
use Rattle.std.proofs.lemmas.Bool.{and_from}
use Rattle.mh_consts.specs.declared.scope.Scope.{Scope}
use Rattle.mh_design.specs.declared.design.Design.{Design}
use Rattle.mh_design.specs.declared.design.Generator.{Generator}
use Rattle.mh_design.specs.WellFormed.{kind_fits, mem_fits, generator_fits}
use Rattle.mh_lower_laws.specs.Holds.{is_of, Holds}
use Rattle.mh_lower_laws.specs.Laws.{with_generator}
use Rattle.mh_lower_laws.proofs.Basics.{all_then, all_both}
use Rattle.mh_lower_laws.proofs.Growth.{Grown}
use Rattle.mh_lower_laws.proofs.HoldsLater.{is_of_same, mem_fits_same, signal_fits_same, lists_same}
use Rattle.mh_lower_laws.proofs.StatementGrowth.{generator_later}

grown_by : (d : Design) (g : Generator) → Grown d (with_generator d g)
grown_by d g = record { signals = refl; enums = refl; mems = λ n x q. q; tables = λ n x q. q }

pub holds_next : (s : Scope) (d : Design) (g : Generator) → generator_fits d g ≡ true → Holds s d → Holds s (with_generator d g)
holds_next s d g f h =
    let e : Design = with_generator d g in
    let w : Grown d (with_generator d g) = grown_by d g in
    record {
      names = all_then (λ entry. is_of d entry.1) (λ entry. is_of e entry.1) s.names (λ entry q. is_of_same d e w entry.1 ∙ q) h.names;
      lists = all_then (list_all (is_of d)) (list_all (is_of e)) s.lists (lists_same d e w) h.lists;
      signals = all_then (λ y. kind_fits d y.kind) (λ y. kind_fits e y.kind) d.signals (λ y q. signal_fits_same d e w y ∙ q) h.signals;
      mems = all_then (mem_fits d) (mem_fits e) d.mems (λ y q. mem_fits_same d e w y ∙ q) h.mems;
      tables = h.tables;
      generators = all_both (generator_fits e) d.generators (g ∷ []) (all_then (generator_fits d) (generator_fits e) d.generators (generator_later d e w) h.generators) (and_from (generator_fits e g) true (generator_later d e w g f) refl);
      cells = h.cells;
    }
