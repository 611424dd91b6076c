-- The definition of a generator: its body is read as the definition is executed.
use Rattle.std.specs.Prelude.{ℕ, List, [], ◌∷◌, ◌++◌, length, Result, Ok}
use Rattle.mh_consts.specs.declared.kinds.Const.TheVariants as c
use Rattle.mh_consts.specs.Expression.{Ex}
use Rattle.mh_design.specs.declared.design.Design.{Design}
use Rattle.mh_lower.specs.Body.{Lines}
use Rattle.mh_lower.specs.Generators.{Read, lowered}
use Rattle.mh_world.specs.Statements.{Block, Parameter}
use Rattle.mh_world.specs.World.{World, Run, Broken, after, look, ◌>>=◌, ◌>>◌}
use Rattle.mh_world.specs.Seen.{scope_of}
use Rattle.mh_world.specs.Named.{bind_name}
use Rattle.mh_world.specs.Frozen.{freeze, freeze_mems}
use Rattle.mh_world.specs.Functions.{add_generator}
use Rattle.mh_elab.specs.Bodies.{body_lines}
use Rattle.mh_elab.specs.Reads.{in_all, in_lines, reads_of}

-- the names that stand in a definition
abbrev pub names_in_def : List Ex → Lines → List (List ℕ)
names_in_def marks b = in_all marks ++ in_lines b

abbrev pub with_design : Design → World → World
with_design d w = record w { design = d }

abbrev pub add_read : List ℕ → ℕ → Read → Design → World → World
add_read t l r d w = with_design d (add_generator t l r.kind r.locals r.body w)

abbrev pub read_def : ℕ → List ℕ → List Ex → List Parameter → Lines → World → Result (Unit {0} × World) Broken
read_def l t marks ps b w = after (lowered (scope_of w (names_in_def marks b)) w.design marks (length ps) l b)
    (λ r. Ok (tt, freeze (reads_of b) (freeze_mems (length w.design.mems) (add_read t l r.0 r.1 w))))

-- the body of a generator is read as its definition is executed
abbrev pub new_generator : ℕ → List ℕ → List Ex → List Parameter → Block → Run (Unit {0})
new_generator l t marks ps b = do
  n ← look (λ w. length w.generators)
  read_def l t marks ps (body_lines b)
  bind_name l t (c.Generator n)
