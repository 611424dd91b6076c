-- What `Signal`, `ResetSignal`, `enum` and `delay` make (MyHDL 0.11 manual, "Reference"; which arguments
-- they take is this project's own rule).
use Rattle.std.specs.Prelude.{ℕ, ℤ, pos, negsuc, ◌+◌, Bool, true, false, ◌&&◌, List, [], ◌∷◌, ◌++◌, length, Option, Some, None, Result, Ok, Err, if◌then◌else◌, nat_le, nat_lt, bytes_eq, slice_get, codes, is_some, option_and_then}
use Rattle.std.specs.Ordering.{int_eq}
use Rattle.mh_text.specs.declared.code.Code.{Code}
use Rattle.mh_text.specs.declared.code.Code.TheVariants.{E3BadArguments, E4BadRange, E5TooWide}
use Rattle.mh_consts.specs.declared.kinds.SignalKind.{SignalKind}
use Rattle.mh_consts.specs.declared.kinds.SignalKind.TheVariants as kind
use Rattle.mh_consts.specs.declared.kinds.Const.{Const, out-Const}
use Rattle.mh_consts.specs.declared.kinds.Const.TheOpen.{Const-F}
use Rattle.mh_consts.specs.declared.kinds.Const.TheVariants as c
use Rattle.mh_consts.specs.Expression.{Keys}
use Rattle.mh_consts.specs.Names.{lookup, bind}
use Rattle.mh_consts.specs.Numbers.{content, number_of}
use Rattle.mh_design.specs.declared.design.Design.{Design}
use Rattle.mh_design.specs.declared.design.Kind.{Kind}
use Rattle.mh_design.specs.declared.design.Kind.TheVariants as declared
use Rattle.mh_design.specs.declared.design.ResetDecl.{ResetDecl}
use Rattle.mh_design.specs.declared.design.SignalDecl.{SignalDecl}
use Rattle.mh_design.specs.declared.design.EnumDecl.{EnumDecl}
use Rattle.mh_design.specs.declared.design.Encoding.{Encoding}
use Rattle.mh_design.specs.declared.design.Encoding.TheVariants as encoding
use Rattle.mh_design.specs.Enums.{item_code, is_narrow}
use Rattle.mh_consts.specs.Outcome as outcome
use Rattle.mh_world.specs.World.{World, Bindings, Run, refuse, at, look, given, ◌>>=◌}
use Rattle.mh_world.specs.Arguments.{Arguments, one_positional, only, split}

-- ---- signals

-- what a signal is made of
pub record Content : Type 0 where
  pub values : SignalKind
  pub kind : Kind
  pub init : ℤ

abbrev pub add_signal : Content → Option ResetDecl → ℕ → World → World
add_signal x reset l w = record w {
  design = record w.design { signals = w.design.signals ++ record { path = []; kind = x.kind; init = x.init; reset = reset; line = l } ∷ [] };
  marks = record w.marks { signals = w.marks.signals ++ None ∷ [] };
}

abbrev pub new_signal : ℕ → Content → Option ResetDecl → Run Const
new_signal l x reset w = Ok (c.Signal (length w.design.signals) x.values, add_signal x reset l w)

-- the code of an item is its value; a place that the enum hasn't is no item
abbrev pub item_content : ℕ → ℕ → Option EnumDecl → Option Content
item_content n place None = None
item_content n place (Some x) =
    if nat_lt place (length x.names) && is_narrow x.encoding (length x.names)
    then Some (record { values = kind.Item n; kind = declared.Item n; init = pos (item_code x.encoding (length x.names) place) }) else None

abbrev pub bit_number : Bool → ℤ
bit_number b = number_of b

abbrev pub truth_content : Bool → Content
truth_content b = record { values = kind.Truth; kind = declared.Bool; init = number_of b }

-- a truth value, an integer, a bounded number or an item of an enum
abbrev pub content_step : Design → Const-F Const → Option Content
content_step d (Const-F.Truth b) = Some (record { values = kind.Truth; kind = declared.Bool; init = number_of b })
content_step d (Const-F.Int n) = Some (record { values = kind.Integer; kind = declared.Int; init = n })
content_step d (Const-F.Bounded v b) = Some (record { values = kind.Bounded b; kind = declared.Bits b; init = v })
content_step d (Const-F.Item n place) = item_content n place (slice_get d.enums n)
content_step d v = None

abbrev pub signal_of : ℕ → Const → Run Const
signal_of l v = do
  x ← look (λ w. content_step w.design (out-Const v))
  given x E3BadArguments l (λ x. new_signal l x None)

-- `Signal(x)`
abbrev pub make_signal : ℕ → Keys → List Const → Run Const
make_signal l keys vs = given (one_positional keys vs) E3BadArguments l (signal_of l)

-- ---- resets

-- 0, 1 or a truth value
abbrev pub bit_of : ℤ → Option Bool
bit_of n = if int_eq n (pos 0) then Some false else (if int_eq n (pos 1) then Some true else None)

abbrev pub bit_step : Const-F Const → Option Bool
bit_step (Const-F.Truth b) = Some b
bit_step (Const-F.Int n) = bit_of n
bit_step v = None

abbrev pub bit_held : Option Const → Option Bool
bit_held None = None
bit_held (Some v) = bit_step (out-Const v)

abbrev pub are_two : Bindings → Bool
are_two (x ∷ y ∷ []) = true
are_two bs = false

abbrev pub reset_bits : Option Bool → Option Bool → Option Bool → Option (Bool × ResetDecl)
reset_bits (Some v) (Some active) (Some asynchronous) = Some (v, record { active = active; asynchronous = asynchronous })
reset_bits v active asynchronous = None

abbrev pub first_bit : List Const → Option Bool
first_bit vs = bit_held (only vs)

-- the value and the reset that these arguments make: both keywords are there, in either order, and no
-- other
abbrev pub reset_in : Arguments → Option (Bool × ResetDecl)
reset_in a = if are_two a.named then reset_bits (first_bit a.positional) (bit_held (lookup a.named (codes "active"))) (bit_held (lookup a.named (codes "isasync"))) else None

abbrev pub reset_from : ℕ → Arguments → Run Const
reset_from l a = given (reset_in a) E3BadArguments l (λ x. new_signal l (truth_content x.0) (Some x.1))

-- `ResetSignal(v, active=a, isasync=f)`
abbrev pub make_reset : ℕ → Keys → List Const → Run Const
make_reset l keys vs = given (split keys vs) E3BadArguments l (reset_from l)

-- ---- enums

abbrev pub text_step : Const-F Const → Option (List ℕ)
text_step (Const-F.Str t) = Some t
text_step v = None

-- all of them, after those that were met
abbrev pub texts_onto : List (List ℕ) → List Const → Option (List (List ℕ))
texts_onto ts [] = Some ts
texts_onto ts (v ∷ vs) = option_and_then (λ t. texts_onto (ts ++ t ∷ []) vs) (text_step (out-Const v))

abbrev pub texts : List Const → Option (List (List ℕ))
texts vs = texts_onto [] vs

-- each differs from those before it
abbrev pub differ_onto : List (List ℕ × Bool) → List (List ℕ) → Bool
differ_onto met [] = true
differ_onto met (t ∷ ts) = if is_some (lookup met t) then false else differ_onto (bind met t true) ts

abbrev pub all_differ : List (List ℕ) → Bool
all_differ ts = differ_onto [] ts

abbrev pub encoding_of : List ℕ → Option Encoding
encoding_of t =
    if bytes_eq t (codes "binary") then Some encoding.Binary
    else (if bytes_eq t (codes "one_hot") then Some encoding.OneHot
    else (if bytes_eq t (codes "one_cold") then Some encoding.OneCold else None))

abbrev pub encoding_held : Const → Option Encoding
encoding_held v = option_and_then encoding_of (text_step (out-Const v))

-- `encoding=` alone may be given, and is binary otherwise
abbrev pub encoding_in : Bindings → Option Encoding
encoding_in [] = Some encoding.Binary
encoding_in (b ∷ []) = if bytes_eq b.0 (codes "encoding") then option_and_then encoding_of (text_step (out-Const b.1)) else None
encoding_in bs = None

abbrev pub add_enum : List (List ℕ) → Encoding → World → World
add_enum ts e w = record w { design = record w.design { enums = w.design.enums ++ record { names = ts; encoding = e } ∷ [] } }

abbrev pub new_enum : ℕ → List (List ℕ) → Encoding → Run Const
new_enum l ts e w =
    if is_narrow e (length ts) then Ok (c.EnumType (length w.design.enums) ts, add_enum ts e w) else Err (E5TooWide, l)

-- at least one, and each once
abbrev pub enum_items : ℕ → List (List ℕ) → Encoding → Run Const
enum_items l ts e = if nat_lt 0 (length ts) && all_differ ts then new_enum l ts e else refuse E3BadArguments l

abbrev pub enum_made : ℕ → Option (List (List ℕ)) → Option Encoding → Run Const
enum_made l (Some ts) (Some e) = enum_items l ts e
enum_made l ts e = refuse E3BadArguments l

-- `enum('A', 'B', encoding='binary')`
abbrev pub make_enum : ℕ → Keys → List Const → Run Const
make_enum l keys vs = given (split keys vs) E3BadArguments l (λ a. enum_made l (texts a.positional) (encoding_in a.named))

-- ---- delays

abbrev pub delay_of : ℤ → Result Const Code
delay_of (pos n) = if nat_le 1 n && nat_le n 2147483647 then Ok (c.Delay n) else Err E4BadRange
delay_of (negsuc n) = Err E4BadRange

abbrev pub delay_held : Const → Result Const Code
delay_held v = outcome.after (content v) delay_of

-- `delay(n)`
abbrev pub make_delay : ℕ → Keys → List Const → Run Const
make_delay l keys vs = given (one_positional keys vs) E3BadArguments l (λ v. at l (delay_held v))
