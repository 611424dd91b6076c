use Rattle.std.proofs.Common.{◌∙◌, sym}
use Rattle.mh_top.proofs.WordLaws.{convert_given, four_words, nothing_given}
use Rattle.mh_top.proofs.command.command_of_four.Goals as goal

pub returns-then-is_convert : goal.returns-then-is_convert
returns-then-is_convert c =
    let words = c.args.words.now in
    let verb = c.index-words-0.result in
    let file = c.index-words-1.result in
    let option = c.index-words-2.result in
    let out = c.index-words-3.result in
    let shape = four_words words verb file option out c.requires c.index-words-0.is c.index-words-1.is c.index-words-2.is c.index-words-3.is in
    convert_given words verb file option out shape (rw (c.bytes.ensures, c.bytes-2.ensures, c.bytes-3.ensures, c.bytes-4.ensures) at (sym c.is_convert.ensures ∙ c.if-is_convert.true))

pub returns-else-is_convert : goal.returns-else-is_convert
returns-else-is_convert c =
    let words = c.args.words.now in
    let verb = c.index-words-0.result in
    let file = c.index-words-1.result in
    let option = c.index-words-2.result in
    let out = c.index-words-3.result in
    let shape = four_words words verb file option out c.requires c.index-words-0.is c.index-words-1.is c.index-words-2.is c.index-words-3.is in
    nothing_given words verb file option out shape (rw (c.bytes.ensures, c.bytes-2.ensures, c.bytes-3.ensures, c.bytes-4.ensures) at (sym c.is_convert.ensures ∙ c.if-is_convert.false))
