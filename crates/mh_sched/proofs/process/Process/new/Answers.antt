use Rattle.std.proofs.Common.{inr, refl, sym, subst}
use Rattle.std.proofs.lemmas.List.{length-map}
use Rattle.mh_flat.specs.Flat.{IsCodeOf}
use Rattle.mh_flat.specs.Stands.{StandsFor}
use Rattle.mh_design.specs.Bodies.{generator_flow}
use Rattle.mh_design.specs.Deltas.{first_process, first_local}
use Rattle.mh_sched.proofs.Slices.{get_below}
use Rattle.mh_sched.proofs.process.Process.new.Goals as goal

pub start-requires : goal.start-requires
start-requires c =
    let g = get_below c.args.d.now.generators c.args.number c.requires.there in
    (generator_flow c.args.d.now g.0, subst (λ v. IsCodeOf (generator_flow c.args.d.now g.0) v) (sym c.code.ensures) (c.requires.code g.0 g.1))

pub returns : goal.returns
returns c g e =
    let code = subst (λ v. IsCodeOf (generator_flow c.args.d.now g) v) (sym c.code.ensures) (c.requires.code g e) in
    let s = c.in_ok-state.ensures in
    record {
      left = subst (λ v. StandsFor v (first_process c.args.d.now g).left c.in_ok-state.state) c.code.ensures (s.left (generator_flow c.args.d.now g) code);
      fits = λ t w. c.body_laws.ensures.starts c.args.d.now c.args.number g t c.requires.formed e w;
      locals = c.in_ok-locals.ensures g e;
      number = length-map g.locals (first_local c.args.d.now);
      since = refl;
      counted = inr s.count;
    }
