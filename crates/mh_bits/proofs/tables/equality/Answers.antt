use Rattle.std.proofs.Common.{sym}
use Rattle.mh_bits.specs.View.{vector_of}
use Rattle.mh_bits.proofs.Tabled.{differing_word}
use Rattle.mh_bits.proofs.SomeBelow.{equality-apart, equality-same, equality-hidden}
use Rattle.mh_bits.proofs.tables.equality.Goals as goal

pub returns-then-a-b-ne0 : goal.returns-then-a-b-ne0
returns-then-a-b-ne0 c =
    let a = vector_of c.args.a in
    let b = vector_of c.args.b in
    sym (equality-apart a b _ (differing_word a b c.args.a.valid c.args.b.valid c.requires) c.if-a-b-ne0.true)

pub returns-then-either-eq0 : goal.returns-then-either-eq0
returns-then-either-eq0 c =
    let a = vector_of c.args.a in
    let b = vector_of c.args.b in
    sym (equality-same a b _ (differing_word a b c.args.a.valid c.args.b.valid c.requires) c.if-a-b-ne0.false c.if-either-eq0.true)

pub returns-else-either-eq0 : goal.returns-else-either-eq0
returns-else-either-eq0 c =
    let a = vector_of c.args.a in
    let b = vector_of c.args.b in
    sym (equality-hidden a b _ (differing_word a b c.args.a.valid c.args.b.valid c.requires) c.if-a-b-ne0.false c.if-either-eq0.false)
