-- This project's own rule: how a list of tokens is read. A reader answers a value and the tokens after it, or refuses
-- at the first token of the list that it answers. T is the type of the tokens; what is asked of a token is a test on it
-- (`T → Bool`), or what it gives (`T → Option A`).
use Rattle.std.specs.Prelude.{◌≡◌, ℕ, zero, suc, Bool, true, false, nat_lt, if◌then◌else◌, List, [], ◌∷◌, length, Option, Some, None, Result, Ok, Err}
use Rattle.mh_reader.specs.declared.fault.Fault.{Fault}
use Rattle.mh_reader.specs.declared.fault.Fault.TheVariants.{Memory, Syntax}

abbrev pub Outcome : Type 0 → Type 0 → Type 0
Outcome T A = Result (A × List T) (List T)

abbrev pub Reader : Type 0 → Type 0 → Type 0
Reader T A = List T → Outcome T A

-- ---- one reader after another

abbrev pub and_then : {T A B : Type 0} → Outcome T A → (A → Reader T B) → Outcome T B
and_then (Ok p) f = f p.0 p.1
and_then (Err r) f = Err r

unfoldable pub chain : {T A B : Type 0} → Reader T A → (A → Reader T B) → Reader T B
chain p f ts = and_then (p ts) f

infixl 10 ◌>>=◌
abbrev pub ◌>>=◌ : {T A B : Type 0} → Reader T A → (A → Reader T B) → Reader T B
p >>= f = chain p f

infixl 10 ◌>>◌
abbrev pub ◌>>◌ : {T A B : Type 0} → Reader T A → Reader T B → Reader T B
p >> q = p >>= (λ _. q)

abbrev pub pure : {T A : Type 0} → A → Reader T A
pure a = λ ts. Ok (a, ts)

abbrev pub refuse : {T A : Type 0} → Reader T A
refuse = λ ts. Err ts

-- ---- what comes next

abbrev pub first_of : {T : Type 0} → List T → Option T
first_of [] = None
first_of (t ∷ ts) = Some t

abbrev pub behind : {T : Type 0} → List T → List T
behind [] = []
behind (t ∷ ts) = ts

abbrev pub sees : {T : Type 0} → (T → Bool) → List T → Bool
sees test [] = false
sees test (t ∷ ts) = test t

-- the next token, which stays
abbrev pub peek : {T : Type 0} → Reader T (Option T)
peek = λ ts. Ok (first_of ts, ts)

-- what f says of the next token, which stays
abbrev pub look : {T A : Type 0} → (Option T → A) → Reader T A
look f = λ ts. Ok (f (first_of ts), ts)

abbrev pub take : {T : Type 0} → Reader T (Unit {0})
take = λ ts. Ok (tt, behind ts)

unfoldable pub after : {T : Type 0} → (T → Bool) → List T → List T
after test ts = if sees test ts then behind ts else ts

-- takes the next token if it passes the test, and says whether it did
abbrev pub eat : {T : Type 0} → (T → Bool) → Reader T Bool
eat test = λ ts. Ok (sees test ts, after test ts)

-- takes the next token, which has to pass the test
unfoldable pub expect : {T : Type 0} → (T → Bool) → Reader T (Unit {0})
expect test = λ ts. if sees test ts then Ok (tt, behind ts) else Err ts

abbrev pub given : {T A : Type 0} → Option A → List T → Outcome T A
given (Some x) ts = Ok (x, behind ts)
given None ts = Err ts

abbrev pub offer : {T A : Type 0} → (T → Option A) → List T → Option A
offer f [] = None
offer f (t ∷ ts) = f t

-- takes the next token, which has to give something by f, and answers what it gives
unfoldable pub want : {T A : Type 0} → (T → Option A) → Reader T A
want f = λ ts. given (offer f ts) ts

-- no token is left
unfoldable pub nothing : {T : Type 0} → Reader T (Unit {0})
nothing [] = Ok (tt, [])
nothing (t ∷ ts) = Err (t ∷ ts)

-- what p reads, then one token that passes the test, the last one
unfoldable pub whole : {T A : Type 0} → (T → Bool) → Reader T A → Reader T A
whole is_end p = p >>= (λ x. expect is_end >>= (λ _. nothing >>= (λ _. pure x)))

-- ---- a step that is made again and again, as long as it says so and takes tokens

abbrev pub after_turn : {T S : Type 0} → (S → Reader T S) → List T → Outcome T (S × Bool) → Outcome T S
after_turn again ts (Err r) = Err r
after_turn again ts (Ok ((s, true), r)) = if nat_lt (length r) (length ts) then again s r else Err ts
after_turn again ts (Ok ((s, false), r)) = Ok (s, r)

unfoldable pub turns : {T S : Type 0} → (S → Reader T (S × Bool)) → ℕ → S → Reader T S
turns step zero s ts = Err ts
turns step (suc n) s ts = after_turn (turns step n) ts (step s ts)

unfoldable pub many : {T S : Type 0} → (S → Reader T (S × Bool)) → S → Reader T S
many step s ts = turns step (suc (length ts)) s ts

-- ---- what a function that reads ensures: the reader's outcome, unless memory fails. After a refusal the tokens that
-- are left begin with the one that does not fit.

abbrev pub Reads : {T A : Type 0} → Outcome T A → Result A Fault → List T → Type 0
Reads outcome (Ok a) new = outcome ≡ Ok (a, new)
Reads outcome (Err Memory) new = Unit {0}
Reads outcome (Err Syntax) new = outcome ≡ Err new
