use Rattle.std.proofs.Common.{◌≡◌, ◌∙◌, ℕ, Bool, List, Option, length, map, ap, sym, subst}
use Rattle.std.proofs.lemmas.List.{length-map}
use Rattle.mh_consts.specs.declared.kinds.Const.{Const}
use Rattle.mh_consts.specs.declared.kinds.Const.TheVariants as value
use Rattle.mh_pytree.specs.declared.statement.FuncDef.{out-FuncDef}
use Rattle.mh_world.specs.Functions.{add_defined, new_function, with_defaults}
use Rattle.mh_world.specs.Named.{bind_name}
use Rattle.mh_world.specs.Statements.{Block, block, parameter_of, st_of}
use Rattle.mh_world.specs.View.{world, function_of, Does, same}
use Rattle.mh_world.specs.World.{World}
use Rattle.mh_world.proofs.state.State.new_function.Goals as goal

-- the number of the function that is added is how many there were
defined : (l : ℕ) (t : List ℕ) (k : Bool) (ps : List (List ℕ × Option Const)) (b : Block) (n : ℕ) (u w : World) →
    n ≡ length w.functions → u ≡ add_defined l t k ps b w → bind_name l t (value.Function n) u ≡ new_function l t k ps b w
defined l t k ps b n u w h e = ap (λ m. bind_name l t (value.Function m) u) h ∙ ap (bind_name l t (value.Function (length w.functions))) e

pub returns : goal.returns
returns c =
    let d = out-FuncDef c.args.f.now in
    subst (λ r. Does same r c.bind_name.result (world c.bind_name.new.self))
    (defined d.line d.name c.args.is_block (with_defaults (map parameter_of d.params) c.args.values.now) (block (map st_of d.body)) c.len-n.result (world c.add_function.new.self) (world c.args.self.now)
    (c.len-n.ensures ∙ (c.args.self.now.functions.ok.0 ∙ sym (length-map c.args.self.now.functions.items function_of))) c.in_ok-add_function.ensures)
    c.bind_name.ensures
