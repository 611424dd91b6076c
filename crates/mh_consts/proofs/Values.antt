-- What a value is, by its variant: `out-Const` opens one level.
use Rattle.std.proofs.Common.{◌≡◌, ℕ, ℤ, List, Bool, rules}
use Rattle.mh_num.specs.declared.bounds.Bounds.{Bounds}
use Rattle.mh_consts.specs.declared.kinds.Builtin.{Builtin}
use Rattle.mh_consts.specs.declared.kinds.SignalKind.{SignalKind}
use Rattle.mh_consts.specs.declared.kinds.Const.{Const, out-Const, the_lemmas}
use Rattle.mh_consts.specs.declared.kinds.Const.TheOpen.{Const-F}
use Rattle.mh_consts.specs.declared.kinds.Const.TheVariants as c

pub out-none : out-Const c.None ≡ Const-F.None
out-none = search (rules, the_lemmas)

pub out-int : (n : ℤ) → out-Const (c.Int n) ≡ Const-F.Int n
out-int n = search (rules, the_lemmas)

pub out-truth : (b : Bool) → out-Const (c.Truth b) ≡ Const-F.Truth b
out-truth b = search (rules, the_lemmas)

pub out-str : (t : List ℕ) → out-Const (c.Str t) ≡ Const-F.Str t
out-str t = search (rules, the_lemmas)

pub out-delay : (n : ℕ) → out-Const (c.Delay n) ≡ Const-F.Delay n
out-delay n = search (rules, the_lemmas)

pub out-enumtype : (n : ℕ) (ts : List (List ℕ)) → out-Const (c.EnumType n ts) ≡ Const-F.EnumType n ts
out-enumtype n ts = search (rules, the_lemmas)

pub out-item : (n : ℕ) (k : ℕ) → out-Const (c.Item n k) ≡ Const-F.Item n k
out-item n k = search (rules, the_lemmas)

pub out-bounded : (v : ℤ) (b : Bounds) → out-Const (c.Bounded v b) ≡ Const-F.Bounded v b
out-bounded v b = search (rules, the_lemmas)

pub out-signal : (n : ℕ) (k : SignalKind) → out-Const (c.Signal n k) ≡ Const-F.Signal n k
out-signal n k = search (rules, the_lemmas)

pub out-edge : (n : ℕ) (up : Bool) → out-Const (c.Edge n up) ≡ Const-F.Edge n up
out-edge n up = search (rules, the_lemmas)

pub out-range : (a : ℤ) (b : ℤ) (d : ℤ) → out-Const (c.Range a b d) ≡ Const-F.Range a b d
out-range a b d = search (rules, the_lemmas)

pub out-list : (n : ℕ) → out-Const (c.List n) ≡ Const-F.List n
out-list n = search (rules, the_lemmas)

pub out-tuple : (xs : List Const) → out-Const (c.Tuple xs) ≡ Const-F.Tuple xs
out-tuple xs = search (rules, the_lemmas)

pub out-function : (n : ℕ) → out-Const (c.Function n) ≡ Const-F.Function n
out-function n = search (rules, the_lemmas)

pub out-instance : (n : ℕ) → out-Const (c.Instance n) ≡ Const-F.Instance n
out-instance n = search (rules, the_lemmas)

pub out-generator : (n : ℕ) → out-Const (c.Generator n) ≡ Const-F.Generator n
out-generator n = search (rules, the_lemmas)

pub out-builtin : (f : Builtin) → out-Const (c.Builtin f) ≡ Const-F.Builtin f
out-builtin f = search (rules, the_lemmas)

pub ruleset values = (out-none, out-int, out-truth, out-str, out-delay, out-enumtype, out-item, out-bounded, out-signal, out-edge, out-range, out-list, out-tuple, out-function, out-instance, out-generator, out-builtin)
