use Rattle.std.proofs.Common.{refl}
use Rattle.mh_top.proofs.ConvertLaws.{source_done, source_refused, source_unstored}
use Rattle.mh_top.proofs.convert.convert_source.Goals as goal

pub returns-in-Ok : goal.returns-in-Ok
returns-in-Ok g c =
    let prepared = rw c.in-Ok-Store.field-0-is at c.in-Ok-Store.ensures in
    source_done c.args.source.now c.args.out.now c.in-Ok-Store.text.items (g.S.Shelf.seen c.args.shelf.now) (g.S.Shelf.seen c.store.new.self) (g.S.Shelf.counts c.args.shelf.now) (g.S.Shelf.counts c.store.new.self)
    prepared.0 (rw c.as_slice.ensures.value at c.in-Ok.ensures.seen) c.in-Ok.ensures.count c.in-Ok.ensures.others

pub returns-in-Ok-Store : goal.returns-in-Ok-Store
returns-in-Ok-Store g c =
    let prepared = rw c.in-Ok-Store.field-0-is at c.in-Ok-Store.ensures in
    source_unstored c.args.source.now c.args.out.now c.in-Ok-Store.text.items c.in-Ok-Store.fault.items (g.S.Shelf.seen c.args.shelf.now) (g.S.Shelf.seen c.store.new.self) (g.S.Shelf.seen c.complain.new.shelf) (g.S.Shelf.counts c.args.shelf.now) (g.S.Shelf.counts c.store.new.self) (g.S.Shelf.counts c.complain.new.shelf) c.complain.result.code
    prepared.0 prepared.1 (rw c.as_slice.ensures.value at c.in-Err-store.ensures.seen) c.in-Err-store.ensures.count c.in-Err-store.ensures.others c.complain.ensures.code (rw c.as_slice-in-Err-store.ensures.value at c.complain.ensures.complained)

pub returns-in-Ok-Refuse : goal.returns-in-Ok-Refuse
returns-in-Ok-Refuse g c =
    let prepared = rw c.in-Ok-Refuse.field-0-is at c.in-Ok-Refuse.ensures in
    let line = c.in-Ok-Refuse.line.items in
    source_refused c.args.source.now c.args.out.now line line prepared.0 prepared.1 _ c.complain-in-Ok-Refuse.result.code prepared.2 prepared.3 prepared.4 refl c.complain-in-Ok-Refuse.ensures.code
    (rw c.as_slice-in-Ok-Refuse.ensures.value at c.complain-in-Ok-Refuse.ensures.complained)
