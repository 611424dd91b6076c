-- What executing a source has made so far: frames of names, lists, functions, instances of blocks,
-- generators and a growing design, each known by its number, and the requests. What is done in it
-- gives a value and what there is after it, or the first rule that is broken with its line.
use Rattle.std.specs.Prelude.{ℕ, ◌+◌, ◌-◌, Bool, true, false, List, [], ◌∷◌, ◌++◌, length, Option, Some, None, Result, Ok, Err, if◌then◌else◌, nat_lt, slice_get, slice_set, codes}
use Rattle.std.specs.Option.{option_map}
use Rattle.mh_text.specs.declared.code.Code.{Code}
use Rattle.mh_text.specs.declared.code.Code.TheVariants.{E7ElabLimit}
use Rattle.mh_consts.specs.declared.kinds.Builtin.{Builtin}
use Rattle.mh_consts.specs.declared.kinds.Builtin.TheVariants as builtin
use Rattle.mh_consts.specs.declared.kinds.Const.{Const}
use Rattle.mh_consts.specs.declared.kinds.Const.TheVariants as c
use Rattle.mh_consts.specs.Names.{bind}
use Rattle.mh_design.specs.declared.design.Design.{Design}
use Rattle.mh_design.specs.declared.design.GenKind.{GenKind}
use Rattle.mh_design.specs.declared.design.Local.{Local}
use Rattle.mh_design.specs.Tree as tree
use Rattle.mh_world.specs.Statements.{Block}
use Rattle.mh_world.specs.declared.kinds.Asked.{Asked}
use Rattle.mh_world.specs.declared.kinds.Frame.{Frame}
use Rattle.mh_world.specs.declared.kinds.Instance.{Instance}
use Rattle.mh_world.specs.declared.kinds.Label.{Label}
use Rattle.mh_world.specs.declared.kinds.Marks.{Marks}

-- Names in order of first binding, each with its latest value.
abbrev pub Bindings : Type 0
Bindings = List (List ℕ × Const)

pub record Function : Type 0 where
  pub line : ℕ  -- of the word `def`
  pub name : List ℕ
  pub is_block : Bool  -- it stands under `@block`
  pub params : List (List ℕ × Option Const)
  pub body : Block
  pub home : ℕ  -- the frame in which it was defined

-- A generator: what was read of its definition, and the instance whose block was being executed.
pub record Made : Type 0 where
  pub name : List ℕ
  pub line : ℕ
  pub inside : Option ℕ
  pub kind : GenKind
  pub locals : List Local
  pub body : tree.Block

pub record World : Type 0 where
  pub frames : List Frame
  pub current : ℕ
  pub lists : List (List Const)
  pub marks : Marks  -- the first names of signals, and what is known of lists
  pub design : Design  -- all signals, memories, tables and enums so far
  pub tuples : List (List Const × Label)  -- each name that was bound to a tuple, in order
  pub functions : List Function
  pub known : List Bool  -- of each function: the module has bound it to a name
  pub instances : List Instance
  pub generators : List Made
  pub requests : List Asked
  pub left : ℕ  -- so many statements may still be executed

-- ---- what is done in a world

-- a rule that is broken, and the line of the statement that breaks it
abbrev pub Broken : Type 0
Broken = Code × ℕ

abbrev pub Run : Type 0 → Type 0
Run A = World → Result (A × World) Broken

abbrev pub after : {A B : Type 0} → Result A Broken → (A → Result B Broken) → Result B Broken
after (Ok x) f = f x
after (Err b) f = Err b

abbrev pub pure : {A : Type 0} → A → Run A
pure x w = Ok (x, w)

abbrev pub refuse : {A : Type 0} → Code → ℕ → Run A
refuse code l w = Err (code, l)

abbrev pub chain : {A B : Type 0} → Run A → (A → Run B) → Run B
chain p f w = after (p w) (λ x. f x.0 x.1)

infixl 10 ◌>>=◌
abbrev pub ◌>>=◌ : {A B : Type 0} → Run A → (A → Run B) → Run B
p >>= f = chain p f

infixl 10 ◌>>◌
abbrev pub ◌>>◌ : {A B : Type 0} → Run A → Run B → Run B
p >> q = chain p (λ x. q)

-- a value that is computed without changing the world; a rule that it breaks is broken at the line
abbrev pub at_line : {A : Type 0} → ℕ → World → Result A Code → Result (A × World) Broken
at_line l w (Ok x) = Ok (x, w)
at_line l w (Err code) = Err (code, l)

abbrev pub placed : {A : Type 0} → ℕ → Result A Code → Result A Broken
placed l (Ok x) = Ok x
placed l (Err code) = Err (code, l)

abbrev pub at : {A : Type 0} → ℕ → Result A Code → Run A
at l r w = at_line l w r

abbrev pub seeing : {A : Type 0} → ℕ → (World → Result A Code) → Run A
seeing l f w = at_line l w (f w)

abbrev pub look : {A : Type 0} → (World → A) → Run A
look f w = Ok (f w, w)

abbrev pub change : (World → World) → Run (Unit {0})
change f w = Ok (tt, f w)

abbrev pub given : {A B : Type 0} → Option A → Code → ℕ → (A → Run B) → Run B
given (Some x) code l f = f x
given None code l f = refuse code l

-- ---- lists of numbered things

abbrev pub put_at : {A : Type 0} → List A → ℕ → Option A → List A
put_at xs i None = xs
put_at xs i (Some x) = slice_set xs i x

-- the thing of this number is changed
abbrev pub changed : {A : Type 0} → (A → A) → List A → ℕ → List A
changed f xs i = put_at xs i (option_map f (slice_get xs i))

-- ---- the beginning

abbrev pub no_design : Design
no_design = record { name = []; ports = []; signals = []; mems = []; tables = []; enums = []; generators = []; listed = []; line = 0 }

-- the names that are always bound
abbrev pub always_bound : Bindings
always_bound = (codes "range", c.Builtin builtin.Range) ∷ (codes "len", c.Builtin builtin.Len) ∷ (codes "int", c.Builtin builtin.Int)
    ∷ (codes "bool", c.Builtin builtin.Bool) ∷ (codes "print", c.Builtin builtin.Print) ∷ (codes "__name__", c.Str (codes "__main__")) ∷ []

-- these names, after those that are bound already
abbrev pub functions_onto : Bindings → Bindings
functions_onto bs = bind (bind (bind (bind (bind bs (codes "range") (c.Builtin builtin.Range)) (codes "len") (c.Builtin builtin.Len)) (codes "int") (c.Builtin builtin.Int))
    (codes "bool") (c.Builtin builtin.Bool)) (codes "print") (c.Builtin builtin.Print)

abbrev pub module_frame : Frame
module_frame = record { names = always_bound; inner = []; parent = None; inside = None; frozen = [] }

-- a world in which so many statements may be executed
abbrev pub begins : ℕ → World
begins limit = record {
  frames = module_frame ∷ [];
  current = 0;
  lists = [];
  marks = record { signals = []; lists = [] };
  design = no_design;
  tuples = [];
  functions = [];
  known = [];
  instances = [];
  generators = [];
  requests = [];
  left = limit;
}

-- ---- counting

-- a statement is reached, or an item of a list with `for`
abbrev pub counted : ℕ → Run (Unit {0})
counted l w = if nat_lt 0 w.left then Ok (tt, record w { left = w.left - 1 }) else Err (E7ElabLimit, l)

-- one turn more than there are statements left to execute
abbrev pub turns : Run ℕ
turns w = Ok (w.left + 1, w)
