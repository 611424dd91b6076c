-- How the definition of a generator is read: its decorator, which says when it runs, and then its body.
-- A rule that the decorator breaks is broken at the line of the word `def`. Which decorators there are
-- is this project's own rule.
use Rattle.std.specs.Prelude.{◌≡◌, ℕ, zero, Bool, true, false, List, [], ◌∷◌, ◌++◌, map, length, Option, Some, None, Result, Ok, Err, if◌then◌else◌, is_some, bytes_eq, codes}
use Rattle.mh_pytree.specs.declared.statement.FuncDef.{FuncDef, out-FuncDef}
use Rattle.mh_text.specs.declared.code.Code.{Code}
use Rattle.mh_text.specs.declared.code.Code.TheVariants.{E1UnknownName, E2NotElaborable, E3BadArguments}
use Rattle.mh_text.specs.declared.refusal.Refusal.{Refusal}
use Rattle.mh_text.specs.declared.refusal.Refusal.TheVariants as refusal
use Rattle.mh_consts.specs.declared.kinds.Builtin.TheVariants as builtin
use Rattle.mh_consts.specs.declared.kinds.Const.{Const, out-Const}
use Rattle.mh_consts.specs.declared.kinds.Const.TheOpen.{Const-F}
use Rattle.mh_consts.specs.declared.scope.Scope.{Scope}
use Rattle.mh_consts.specs.Expression as x
use Rattle.mh_consts.specs.Expression.{Ex, Exs, Keys, ex_of, name_in}
use Rattle.mh_consts.specs.Outcome.{after}
use Rattle.mh_consts.specs.Names.{lookup, bind}
use Rattle.mh_consts.specs.Builtins.{all_positional}
use Rattle.mh_consts.specs.Constant.{value, is_plain}
use Rattle.mh_design.specs.declared.design.Design.{Design}
use Rattle.mh_design.specs.declared.design.Kind.{Kind}
use Rattle.mh_design.specs.declared.design.Kind.TheVariants as kind
use Rattle.mh_design.specs.declared.design.GenKind.{GenKind}
use Rattle.mh_design.specs.declared.design.GenKind.TheVariants as generator
use Rattle.mh_design.specs.declared.design.Local.{Local}
use Rattle.mh_design.specs.declared.design.Generator.{Generator}
use Rattle.mh_design.specs.declared.design.Wait.{Wait}
use Rattle.mh_design.specs.Numbering.{body_of}
use Rattle.mh_design.specs.Tree.{Statement, Block, block}
use Rattle.mh_design.specs.WellFormed.{is_edge, is_reset}
use Rattle.mh_exprs.specs.declared.locals.Locals.{Locals}
use Rattle.mh_exprs.specs.declared.names.Callee.{Callee}
use Rattle.mh_exprs.specs.declared.names.Callee.TheVariants as callee
use Rattle.mh_exprs.specs.declared.typed.Work.{Work}
use Rattle.mh_text.specs.declared.fault.Fault.{Fault}
use Rattle.mh_text.specs.declared.fault.Fault.TheVariants as fault
use Rattle.mh_lower.specs.Bodies.{read_lines}
use Rattle.mh_lower.specs.Body as line
use Rattle.mh_lower.specs.Body.{Line, Lines, Choice, Choices, End, Then, Where, NoChoice, OrElse, lines, line_of}
use Rattle.mh_exprs.specs.Calls.{callee_by, callee_of}
use Rattle.mh_lower.specs.Paths.{starts}
use Rattle.mh_lower.specs.Run.{Broken}
use Rattle.mh_lower.specs.Views.{View, view, Named, Text, Tupled, Called, Attributed, Indexed, Ranged, RangedFrom, Resized, Entire, Another}
use Rattle.mh_lower.specs.Waits.{wait_for, waits_onto}

-- ---- locals: the names that are assigned in the body, each once, in order of first assignment

abbrev pub no_locals : Locals
no_locals = record { names = []; numbers = [] }

abbrev pub with_local : Locals → List ℕ → Locals
with_local ls t =
    if is_some (lookup ls.numbers t) then ls
    else record { names = ls.names ++ t ∷ []; numbers = bind ls.numbers t (length ls.names) }

abbrev pub with_name : Locals → Option (List ℕ) → Locals
with_name ls None = ls
with_name ls (Some t) = with_local ls t

abbrev pub names_onto : Locals → Exs → Locals
names_onto ls x.NoMore = ls
names_onto ls (x.More e es) = names_onto (with_name ls (name_in e)) es

-- a name, or several in a tuple
abbrev pub target_view : Locals → View → Locals
target_view ls (Named t) = with_local ls t
target_view ls (Tupled xs) = names_onto ls xs
target_view ls v = ls

abbrev pub target_onto : Locals → Ex → Locals
target_onto ls e = target_view ls (view e)

abbrev mutual
  pub locals_in : Locals → Line → Locals
  locals_in ls (line.Assign l target e) = target_onto ls target
  locals_in ls (line.Augment l op target e) = with_name ls (name_in target)
  locals_in ls (line.If l cs other) = locals_in_lines (locals_in_choices ls cs) other
  locals_in ls (line.For l t over b) = locals_in_lines (with_local ls t) b
  locals_in ls (line.While l e b) = locals_in_lines ls b
  locals_in ls other = ls

  pub locals_in_lines : Locals → Lines → Locals
  locals_in_lines ls End = ls
  locals_in_lines ls (Then x xs) = locals_in_lines (locals_in ls x) xs

  pub locals_in_choice : Locals → Choice → Locals
  locals_in_choice ls (Where e b) = locals_in_lines ls b

  pub locals_in_choices : Locals → Choices → Locals
  locals_in_choices ls NoChoice = ls
  locals_in_choices ls (OrElse c cs) = locals_in_choices (locals_in_choice ls c) cs

-- each has a kind in the end, since each assignment gives one
abbrev pub kind_or_int : Option Kind → Kind
kind_or_int None = kind.Int
kind_or_int (Some k) = k

abbrev pub locals_of : List (List ℕ) → List (Option Kind) → List Local
locals_of (t ∷ ts) (k ∷ ks) = record { name = t; kind = kind_or_int k } ∷ locals_of ts ks
locals_of ts ks = []

-- ---- decorators

abbrev pub by_name : Callee → Result GenKind Code
by_name (callee.Known builtin.Instance) = Ok generator.Instance
by_name (callee.Known builtin.AlwaysComb) = Ok generator.Comb
by_name (callee.Refused E1UnknownName) = Err E1UnknownName
by_name c = Err E2NotElaborable

abbrev pub any_waits : List Wait → Result GenKind Code
any_waits [] = Err E3BadArguments
any_waits ws = Ok (generator.Always ws)

abbrev pub always : Scope → Locals → Keys → Exs → Result GenKind Code
always s ls keys xs = after (waits_onto s ls [] xs) (λ ws. if all_positional keys then any_waits ws else Err E3BadArguments)

-- a signal that is declared as a reset, or `None`
abbrev pub reset_step : Design → Const-F Const → Result (Option ℕ) Code
reset_step d Const-F.None = Ok None
reset_step d (Const-F.Signal n k) = if is_reset d (Some n) then Ok (Some n) else Err E3BadArguments
reset_step d v = Err E3BadArguments

abbrev pub is_reset_pair : Option (List ℕ) → Option (List ℕ) → Bool
is_reset_pair None (Some key) = bytes_eq key (codes "reset")
is_reset_pair edge reset = false

abbrev pub is_reset_key : Keys → Bool
is_reset_key (edge ∷ reset ∷ []) = is_reset_pair edge reset
is_reset_key keys = false

abbrev pub sequential : Wait → Option ℕ → Result GenKind Code
sequential w r = if is_edge w then Ok (generator.Seq w r) else Err E3BadArguments

-- `always_seq(edge, reset=r)`
abbrev pub with_reset : Scope → Design → Wait → Ex → Result GenKind Code
with_reset s d w r =
    if is_plain s r then after (value s r) (λ v. after (reset_step d (out-Const v)) (sequential w)) else Err E2NotElaborable

abbrev pub always_seq : Scope → Locals → Design → Bool → Exs → Result GenKind Code
always_seq s ls d true (x.More edge (x.More r x.NoMore)) = after (wait_for s ls edge) (λ w. with_reset s d w r)
always_seq s ls d keys xs = Err E3BadArguments

abbrev pub by_call : Scope → Locals → Design → Callee → Keys → Exs → Result GenKind Code
by_call s ls d (callee.Known builtin.Always) keys xs = always s ls keys xs
by_call s ls d (callee.Known builtin.AlwaysSeq) keys xs = always_seq s ls d (is_reset_key keys) xs
by_call s ls d (callee.Refused E1UnknownName) keys xs = Err E1UnknownName
by_call s ls d c keys xs = Err E2NotElaborable

abbrev pub mark_view : Scope → Locals → Design → View → Result GenKind Code
mark_view s ls d (Named t) = by_name (callee_by s ls (Some t))
mark_view s ls d (Called keys f xs) = by_call s ls d (callee_of s ls f) keys xs
mark_view s ls d v = Err E2NotElaborable

abbrev pub mark : Scope → Locals → Design → Ex → Result GenKind Code
mark s ls d e = mark_view s ls d (view e)

-- one decorator, and no parameters
abbrev pub marked : Scope → Locals → Design → List Ex → ℕ → Result GenKind Code
marked s ls d (e ∷ []) zero = mark s ls d e
marked s ls d es n = Err E2NotElaborable

-- ---- the definition as a whole

abbrev pub is_instance : GenKind → Bool
is_instance generator.Instance = true
is_instance k = false

abbrev pub at_def : {A : Type 0} → ℕ → Result A Code → Result A Broken
at_def l (Ok x) = Ok x
at_def l (Err code) = Err (code, l)

abbrev pub next : {A B : Type 0} → Result A Broken → (A → Result B Broken) → Result B Broken
next (Ok x) f = f x
next (Err b) f = Err b

-- what was read: when it runs, its locals, and its statements
pub record Read : Type 0 where
  pub kind : GenKind
  pub locals : List Local
  pub body : Block

abbrev pub read_as : GenKind → Locals → List Statement × Work × Design → Read × Design
read_as k ls r = (record { kind = k; locals = locals_of ls.names r.1.kinds; body = block r.0 }, r.2)

abbrev pub read_body : Scope → Design → GenKind → Lines → Locals → Result (Read × Design) Broken
read_body s d k b ls = next (read_lines s ls (is_instance k) false [] b (starts ls) d) (λ r. Ok (read_as k ls r))

-- the definition with these decorators, so many parameters, this line and this body; no local is known
-- to its decorators
abbrev pub lowered : Scope → Design → List Ex → ℕ → ℕ → Lines → Result (Read × Design) Broken
lowered s d marks params l b =
    next (at_def l (marked s no_locals d marks params)) (λ k. read_body s d k b (locals_in_lines no_locals b))

-- ---- what a call answers

abbrev pub def_of : Scope → Design → FuncDef → Result (Read × Design) Broken
def_of s d f = lowered s d (map ex_of (out-FuncDef f).marks) (length (out-FuncDef f).params) (out-FuncDef f).line (lines (map line_of (out-FuncDef f).body))

-- what a generator has of a definition
abbrev pub read_of : Generator → Read
read_of g = record { kind = g.kind; locals = g.locals; body = body_of g }

-- the name and the line of a generator are those of its definition
pub record IsNamed (f : FuncDef) (g : Generator) : Type 0 where
  pub path : g.path ≡ (out-FuncDef f).name
  pub line : g.line ≡ (out-FuncDef f).line

-- The generator, with the design after it; or a refusal with the code and the line of the first rule
-- that is broken, without names. Want of memory is free.
abbrev pub Answers : Result (Read × Design) Broken → FuncDef → Result Generator Refusal → Design → Type 0
Answers r f (Ok g) d = (r ≡ Ok (read_of g, d)) × IsNamed f g
Answers r f (Err (refusal.At code line names)) d = (r ≡ Err (code, line)) × (names ≡ [])
Answers r f (Err refusal.Memory) d = Unit {0}

-- the same before the refusal is made
abbrev pub ReadsDef : Result (Read × Design) Broken → FuncDef → Result Generator (Fault Broken) → Design → Type 0
ReadsDef r f (Ok g) d = (r ≡ Ok (read_of g, d)) × IsNamed f g
ReadsDef r f (Err (fault.Broken rule)) d = r ≡ Err rule
ReadsDef r f (Err fault.Memory) d = Unit {0}
