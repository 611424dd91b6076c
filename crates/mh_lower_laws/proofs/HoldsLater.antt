-- A design that has got memories and tables that fit is as it has to be.
use Rattle.std.proofs.Common.{◌≡◌, ℕ, Bool, true, false, ◌&&◌, List, [], ◌∷◌, Option, Some, None, refl, ap, sym, ◌∙◌, if◌then◌else◌}
use Rattle.std.specs.Prelude.{slice_get, ◌==◌}
use Rattle.std.specs.Ordering.{int_eq}
use Rattle.std.specs.List.{list_all}
use Rattle.std.specs.Option.{option_map, option_map_or, option_and_then}
use Rattle.std.proofs.lemmas.Bool.{and_parts, and_from, eqb-true, eq-eqb}
use Rattle.std.proofs.lemmas.Bool.Decides.{Decides-int_eq}
use Rattle.mh_consts.specs.declared.kinds.Const.{Const}
use Rattle.mh_consts.specs.declared.scope.Scope.{Scope}
use Rattle.mh_design.specs.declared.design.Design.{Design}
use Rattle.mh_design.specs.declared.design.MemDecl.{MemDecl}
use Rattle.mh_design.specs.declared.design.SignalDecl.{SignalDecl}
use Rattle.mh_design.specs.declared.design.Kind.{Kind}
use Rattle.mh_design.specs.declared.design.Kind.TheVariants as kind
use Rattle.mh_design.specs.Kinds.{signal_kind}
use Rattle.mh_design.specs.WellFormed.{kind_fits, met, met_next, met_all, cells_kind, same_bool, same_kind, mem_fits, table_fits, generator_fits}
use Rattle.mh_lower_laws.specs.Holds.{is_of, has_its_cells, Holds, Extends}
use Rattle.mh_lower_laws.proofs.Basics.{all_at, all_then, all_both}
use Rattle.mh_lower_laws.proofs.Growth.{Grown, grown}
use Rattle.mh_lower_laws.proofs.StatementGrowth.{generator_later}

-- ---- kinds of lists

same_bool-self : (b : Bool) → same_bool b b ≡ true
same_bool-self true = refl
same_bool-self false = refl

pub same_kind-self : (k : Kind) → same_kind k k ≡ true
same_kind-self kind.Bool = refl
same_kind-self kind.Int = refl
same_kind-self (kind.Bits b) =
    and_from (int_eq b.lo b.lo && int_eq b.top b.top) (same_bool b.wraps b.wraps) (and_from (int_eq b.lo b.lo) (int_eq b.top b.top) ((Decides-int_eq b.lo b.lo).1 refl) ((Decides-int_eq b.top b.top).1 refl)) (same_bool-self b.wraps)
same_kind-self (kind.Item n) = eq-eqb n n refl

module _ (d : Design) where
  -- a kind that is the same as one that fits fits
  pub same_fits : (k l : Kind) → same_kind k l ≡ true → kind_fits d l ≡ true → kind_fits d k ≡ true
  same_fits kind.Bool l h f = refl
  same_fits kind.Int l h f = refl
  same_fits (kind.Bits b) l h f = refl
  same_fits (kind.Item n) kind.Bool h f = absurd (cc)
  same_fits (kind.Item n) kind.Int h f = absurd (cc)
  same_fits (kind.Item n) (kind.Bits b) h f = absurd (cc)
  same_fits (kind.Item n) (kind.Item m) h f = ap (λ x. kind_fits d (kind.Item x)) (eqb-true n m h) ∙ f

  met_fits : (k l m : Kind) → met k l ≡ Some m → kind_fits d k ≡ true → kind_fits d l ≡ true → kind_fits d m ≡ true
  met_fits k l kind.Bool h f g = refl
  met_fits k l kind.Int h f g = refl
  met_fits k l (kind.Bits b) h f g = refl
  met_fits kind.Bool kind.Bool (kind.Item n) h f g = absurd (cc)
  met_fits kind.Bool kind.Int (kind.Item n) h f g = absurd (cc)
  met_fits kind.Bool (kind.Bits c) (kind.Item n) h f g = absurd (cc)
  met_fits kind.Bool (kind.Item m) (kind.Item n) h f g = absurd (cc)
  met_fits kind.Int kind.Bool (kind.Item n) h f g = absurd (cc)
  met_fits kind.Int kind.Int (kind.Item n) h f g = absurd (cc)
  met_fits kind.Int (kind.Bits c) (kind.Item n) h f g = absurd (cc)
  met_fits kind.Int (kind.Item m) (kind.Item n) h f g = absurd (cc)
  met_fits (kind.Bits b) kind.Bool (kind.Item n) h f g = absurd (cc)
  met_fits (kind.Bits b) kind.Int (kind.Item n) h f g = absurd (cc)
  met_fits (kind.Bits b) (kind.Bits c) (kind.Item n) h f g = absurd (cc)
  met_fits (kind.Bits b) (kind.Item m) (kind.Item n) h f g = absurd (cc)
  met_fits (kind.Item e) kind.Bool (kind.Item n) h f g = absurd (cc)
  met_fits (kind.Item e) kind.Int (kind.Item n) h f g = absurd (cc)
  met_fits (kind.Item e) (kind.Bits c) (kind.Item n) h f g = absurd (cc)
  met_fits (kind.Item e) (kind.Item m) (kind.Item n) h f g = by_test (e == m) h
    where
      by_test : (b : Bool) → (if b then Some (kind.Item e) else None) ≡ Some (kind.Item n) → kind_fits d (kind.Item n) ≡ true
      by_test true q = let same : kind.Item e ≡ kind.Item n = cc in ap (kind_fits d) (sym same) ∙ f
      by_test false q = absurd (cc)

  module _ (signals : list_all (λ x. kind_fits d x.kind) d.signals ≡ true) where
    pub signal_kind_fits : (n : ℕ) (k : Kind) → signal_kind d n ≡ Some k → kind_fits d k ≡ true
    signal_kind_fits n k h = by_signal (slice_get d.signals n) refl h
      where
        by_signal : (o : Option SignalDecl) → slice_get d.signals n ≡ o → option_map (λ x. x.kind) o ≡ Some k → kind_fits d k ≡ true
        by_signal (Some x) e q = let same : x.kind ≡ k = cc in ap (kind_fits d) (sym same) ∙ all_at (λ x. kind_fits d x.kind) d.signals n x signals e
        by_signal None e q = absurd (cc)

    next_fits : (k : Option Kind) (c : ℕ) (l : Kind) → ((x : Kind) → k ≡ Some x → kind_fits d x ≡ true) → met_next d k c ≡ Some l → kind_fits d l ≡ true
    next_fits None c l f h = absurd (cc)
    next_fits (Some x) c l f h = by_signal (signal_kind d c) refl h
      where
        by_signal : (o : Option Kind) → signal_kind d c ≡ o → option_and_then (met x) o ≡ Some l → kind_fits d l ≡ true
        by_signal (Some y) e q = met_fits x y l q (f x refl) (signal_kind_fits c y e)
        by_signal None e q = absurd (cc)

    all_met_fits : (cs : List ℕ) (k : Option Kind) (l : Kind) → ((x : Kind) → k ≡ Some x → kind_fits d x ≡ true) → met_all d k cs ≡ Some l → kind_fits d l ≡ true
    all_met_fits [] k l f h = f l h
    all_met_fits (c ∷ cs) k l f h = all_met_fits cs (met_next d k c) l (λ x e. next_fits k c x f e) h

    -- the kind of a list's elements fits
    pub cells_kind_fits : (cs : List ℕ) (k : Kind) → cells_kind d cs ≡ Some k → kind_fits d k ≡ true
    cells_kind_fits [] k h = absurd (cc)
    cells_kind_fits (c ∷ cs) k h = all_met_fits cs (signal_kind d c) k (λ x e. signal_kind_fits c x e) h

    pub mem_kind_fits : (m : MemDecl) → mem_fits d m ≡ true → kind_fits d m.kind ≡ true
    mem_kind_fits m h = by_cells (cells_kind d m.cells) refl (and_parts _ _ h).1
      where
        by_cells : (o : Option Kind) → cells_kind d m.cells ≡ o → option_map_or (same_kind m.kind) o false ≡ true → kind_fits d m.kind ≡ true
        by_cells (Some k) e q = same_fits m.kind k q (cells_kind_fits m.cells k e)
        by_cells None e q = absurd (cc)

-- ---- what looks at signals and enums alone

module _ (d e : Design) (g : Grown d e) where
  pub is_of_same : (v : Const) → is_of e v ≡ is_of d v
  unfolding is_of
  is_of_same v = ap (λ ss. is_of (record d { signals = ss }) v) g.signals

  pub mem_fits_same : (m : MemDecl) → mem_fits e m ≡ mem_fits d m
  mem_fits_same m = ap (λ ss. mem_fits (record d { signals = ss }) m) g.signals

  pub signal_fits_same : (x : SignalDecl) → kind_fits e x.kind ≡ kind_fits d x.kind
  signal_fits_same x = ap (λ es. kind_fits (record d { enums = es }) x.kind) g.enums

  pub lists_same : (vs : List Const) → list_all (is_of d) vs ≡ true → list_all (is_of e) vs ≡ true
  lists_same vs h = all_then (is_of d) (is_of e) vs (λ v q. is_of_same v ∙ q) h

-- what has got memories of the scope's lists, and tables
pub holds_later : (s : Scope) (d e : Design) (x : Extends d e) → list_all (mem_fits d) x.mems ≡ true → list_all (has_its_cells s) x.mems ≡ true → list_all table_fits x.tables ≡ true → Holds s d → Holds s e
holds_later s d e x m c t h =
    let g : Grown d e = grown d e x in
    record {
      names = all_then (λ entry. is_of d entry.1) (λ entry. is_of e entry.1) s.names (λ entry q. is_of_same d e g entry.1 ∙ q) h.names;
      lists = all_then (list_all (is_of d)) (list_all (is_of e)) s.lists (lists_same d e g) h.lists;
      signals = ap (list_all (λ y. kind_fits e y.kind)) g.signals ∙ all_then (λ y. kind_fits d y.kind) (λ y. kind_fits e y.kind) d.signals (λ y q. signal_fits_same d e g y ∙ q) h.signals;
      mems = ap (λ (z : Design). list_all (mem_fits e) z.mems) x.same ∙ all_both (mem_fits e) d.mems x.mems (all_then (mem_fits d) (mem_fits e) d.mems (λ y q. mem_fits_same d e g y ∙ q) h.mems) (all_then (mem_fits d) (mem_fits e) x.mems (λ y q. mem_fits_same d e g y ∙ q) m);
      tables = ap (λ (z : Design). list_all table_fits z.tables) x.same ∙ all_both table_fits d.tables x.tables h.tables t;
      generators = ap (λ (z : Design). list_all (generator_fits e) z.generators) x.same ∙ all_then (generator_fits d) (generator_fits e) d.generators (generator_later d e g) h.generators;
      cells = ap (λ (z : Design). list_all (has_its_cells s) z.mems) x.same ∙ all_both (has_its_cells s) d.mems x.mems h.cells c;
    }
