use Rattle.std.proofs.Common.{◌≡◌, ◌<◌, ◌+◌, ℕ, List, length, sym, subst, ◌∙◌, arith}
use Rattle.mh_pytok.specs.State.{IsLine}
use Rattle.mh_pytok.proofs.LineLaws.{place_next, line_next}
use Rattle.mh_pytok.proofs.steps.line_behind.Goals as goal

pub loop-i-preserved : goal.loop-i-preserved
loop-i-preserved c =
    let src : List ℕ = c.loop-i.cursor.src.now in
    let same : src ≡ c.args.src.now = c.loop-i.invariant.source in
    let below : c.loop-i.cursor.at < length src = subst (λ s. c.loop-i.cursor.at < length s) (sym same) (omega arith) in
    let line : IsLine src c.loop-i.cursor.at c.loop-i.cursor.line = subst (λ s. IsLine s c.loop-i.cursor.at c.loop-i.cursor.line) (sym same) c.loop-i.invariant.line in
    let on : c.bump.new.self.at ≡ c.loop-i.cursor.at + 1 = place_next src c.loop-i.cursor.at c.bump.new.self.at c.bump.result below c.bump.ensures.byte c.bump.ensures.place in
    let next : IsLine src (c.loop-i.cursor.at + 1) c.bump.new.self.line = line_next src c.loop-i.cursor.at c.loop-i.cursor.line c.bump.new.self.line c.bump.result below c.bump.ensures.byte c.bump.ensures.line line in
    record {
      source = c.bump.ensures.source ∙ same;
      on = omega (arith, on);
      line = subst (λ s. IsLine s c.bump.new.self.at c.bump.new.self.line) same (subst (λ p. IsLine src p c.bump.new.self.line) (sym on) next);
    }
