use Rattle.std.proofs.Common.{◌∙◌, sym}
use Rattle.mh_top.proofs.WordLaws.{nothing_in_two, sim_given, two_words}
use Rattle.mh_top.proofs.command.command_of_two.Goals as goal

pub returns-then-is_sim : goal.returns-then-is_sim
returns-then-is_sim c =
    let words = c.args.words.now in
    let verb = c.index-words-0.result in
    let file = c.index-words-1.result in
    let shape = two_words words verb file c.requires c.index-words-0.is c.index-words-1.is in
    sim_given words verb file shape (rw (c.bytes.ensures, c.bytes-2.ensures) at (sym c.is_sim.ensures ∙ c.if-is_sim.true))

pub returns-else-is_sim : goal.returns-else-is_sim
returns-else-is_sim c =
    let words = c.args.words.now in
    let verb = c.index-words-0.result in
    let file = c.index-words-1.result in
    let shape = two_words words verb file c.requires c.index-words-0.is c.index-words-1.is in
    nothing_in_two words verb file shape (rw (c.bytes.ensures, c.bytes-2.ensures) at (sym c.is_sim.ensures ∙ c.if-is_sim.false))
