-- What the definition of a generator speaks of, piece by piece, and what reading it leaves.
use Rattle.std.proofs.Common.{◌≡◌, ℕ, List, [], ◌∷◌, ◌++◌, map, length, Result, Ok, Err, refl, ap}
use Rattle.std.proofs.lemmas.List.{length-map}
use Rattle.mh_pytree.specs.declared.statement.FuncDef.{FuncDef, out-FuncDef}
use Rattle.mh_consts.specs.Expression.{Ex, ex_of, exs}
use Rattle.mh_consts.specs.declared.kinds.Const.TheVariants as c
use Rattle.mh_consts.specs.declared.scope.Scope.{Scope}
use Rattle.mh_design.specs.Numbering.{body_of}
use Rattle.mh_design.specs.declared.design.Design.{Design}
use Rattle.mh_design.specs.declared.design.Generator.{Generator}
use Rattle.mh_lower.specs.Body.{line_of, lines}
use Rattle.mh_lower.specs.Generators.{IsNamed, def_of, read_of}
use Rattle.mh_world.specs.Frozen.{freeze, freeze_mems}
use Rattle.mh_world.specs.Functions.{add_generator}
use Rattle.mh_world.specs.Named.{bind_name}
use Rattle.mh_world.specs.Seen.{find, known_as, known_onto, scope_of}
use Rattle.mh_world.specs.Statements.{block, parameter_of, st_of}
use Rattle.mh_world.specs.World.{Bindings, Broken, World}
use Rattle.mh_elab.specs.Definitions.{names_in_def, new_generator, read_def, with_design}
use Rattle.mh_elab.specs.Reads.{in_all, in_ex, in_exs, reads_of}
use Rattle.mh_elab.proofs.BodyLines.{lines_body}

pub known_append : (w : World) (bs : Bindings) (ts us : List (List ℕ)) → known_onto w bs (ts ++ us) ≡ known_onto w (known_onto w bs ts) us
known_append w bs [] us = refl
known_append w bs (t ∷ ts) us = known_append w (known_as bs t (find w t)) ts us

pub all_in_exs : (ms : List Ex) → in_exs (exs ms) ≡ in_all ms
all_in_exs [] = refl
all_in_exs (m ∷ ms) = ap (λ ts. in_ex m ++ ts) (all_in_exs ms)

pub ruleset speaking = (known_append, all_in_exs)

pub ruleset defining = (lines_body, length-map)

-- ---- what reading a definition leaves

abbrev pub read_of_def : FuncDef → World → Result (Unit {0} × World) Broken
read_of_def f w = read_def (out-FuncDef f).line (out-FuncDef f).name (map ex_of (out-FuncDef f).marks) (map parameter_of (out-FuncDef f).params) (lines (map line_of (out-FuncDef f).body)) w

abbrev pub spoken_of : FuncDef → World → Scope
spoken_of f w = scope_of w (names_in_def (map ex_of (out-FuncDef f).marks) (lines (map line_of (out-FuncDef f).body)))

pub read_is : (f : FuncDef) (w u v x y z : World) (n : ℕ) (s : Scope) (g : Generator) (d : Design) → s ≡ spoken_of f w → u ≡ w → n ≡ length u.design.mems → def_of s u.design f ≡ Ok (read_of g, d) → IsNamed f g →
    v ≡ with_design d u → x ≡ add_generator g.path g.line g.kind g.locals (body_of g) v → z ≡ freeze_mems n x → y ≡ freeze (reads_of (lines (map line_of (out-FuncDef f).body))) z → read_of_def f w ≡ Ok (tt, y)
read_is f w u v x y z n s g d scope same mems h named design added fixed frozen =
    let k = rw (scope, same) at h in
    rw (length-map (out-FuncDef f).params parameter_of, k, frozen, fixed, added, design, mems, same, named.path, named.line) refl

pub read_breaks : (f : FuncDef) (w u : World) (s : Scope) (b : Broken) → s ≡ spoken_of f w → u ≡ w → def_of s u.design f ≡ Err b → read_of_def f w ≡ Err b
read_breaks f w u s b scope same h =
    let k = rw (scope, same) at h in
    rw (length-map (out-FuncDef f).params parameter_of, k) refl

-- its number is how many generators there were
pub generated : (f : FuncDef) (w u : World) (n : ℕ) → n ≡ length w.generators → read_of_def f w ≡ Ok (tt, u) →
    bind_name (out-FuncDef f).line (out-FuncDef f).name (c.Generator n) u ≡ new_generator (out-FuncDef f).line (out-FuncDef f).name (map ex_of (out-FuncDef f).marks) (map parameter_of (out-FuncDef f).params) (block (map st_of (out-FuncDef f).body)) w
generated f w u n count read = rw (lines_body (out-FuncDef f).body, read, count) refl
