-- What an expression comes to: a value, or the code of the rule that it breaks.
use Rattle.std.specs.Prelude.{◌≡◌, List, [], ℕ, ℤ, Bool, Option, Some, None, Result, Ok, Err, slice_get}
use Rattle.std.proofs.Common.{Bor}
use Rattle.mh_text.specs.declared.code.Code.{Code}
use Rattle.mh_text.specs.declared.code.Code.TheVariants.{E5TooWide, E10KindClash}
use Rattle.mh_text.specs.declared.refusal.Refusal.{Refusal}
use Rattle.mh_text.specs.declared.refusal.Refusal.TheVariants as refusal
use Rattle.mh_consts.specs.declared.kinds.Const.{Const}
use Rattle.mh_consts.specs.declared.kinds.Const.TheVariants as c

abbrev pub Outcome : Type 0
Outcome = Result Const Code

-- the next step, on what this one gives; the first rule that is broken is the answer
abbrev pub after : {A B : Type 0} → Result A Code → (A → Result B Code) → Result B Code
after (Ok x) f = f x
after (Err code) f = Err code

abbrev pub given : {A : Type 0} → Option A → Code → Result A Code
given (Some x) code = Ok x
given None code = Err code

-- the value of a part; without it the parts don't fit
abbrev pub part : List Const → ℕ → Outcome
part vs i = given (slice_get vs i) E10KindClash

-- an integer within i128, as `in_i128` of mh_num and its other definitions give it
abbrev pub integer : Option ℤ → Outcome
integer (Some n) = Ok (c.Int n)
integer None = Err E5TooWide

abbrev pub truth_value : Result Bool Code → Outcome
truth_value (Ok b) = Ok (c.Truth b)
truth_value (Err code) = Err code

-- what a reference points to
abbrev pub lent : {A : Type 0} → Result (Bor A) Code → Result A Code
lent (Ok r) = Ok r.now
lent (Err code) = Err code

-- What a call answers: the value, or a refusal with the code, without a place and without names. Want
-- of memory is free.
abbrev pub Answers : Outcome → Result Const Refusal → Type 0
Answers r (Ok v) = r ≡ Ok v
Answers r (Err (refusal.At code line names)) = (r ≡ Err code) × (line ≡ 0) × (names ≡ [])
Answers r (Err refusal.Memory) = Unit {0}
