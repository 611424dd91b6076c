use Rattle.std.proofs.Common.{◌∙◌, sym, subst}
use Rattle.std.proofs.lemmas.List.{length-map}
use Rattle.mh_world.specs.View.{world, made_of, Does, same}
use Rattle.mh_elab.proofs.DefinitionLaws.{generated}
use Rattle.mh_elab.proofs.definitions.new_generator.Goals as goal

pub returns : goal.returns
returns c =
    let generators = c.args.state.now.generators in
    subst (λ r. Does same r c.bind_name.result (world c.bind_name.new.self))
    (generated c.args.f.now (world c.args.state.now) (world c.read_def.new.state) c.len-n.result (c.len-n.ensures ∙ (generators.ok.0 ∙ sym (length-map generators.items made_of))) c.in_ok-read_def.ensures)
    c.bind_name.ensures
