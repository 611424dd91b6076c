-- The first step of the readers that count their depth down.
use Rattle.std.proofs.Common.{◌≡◌, ℕ, zero, suc, ◌-◌, List, [], refl, ap, arith, Err}
use Rattle.mh_reader.specs.Reader.{◌>>=◌, many}
use Rattle.mh_pytok.specs.Lexeme.{Lexeme}
use Rattle.mh_pyparse.specs.Reading.{expr, exprs, tuple, whole}
use Rattle.mh_pyparse.specs.ReadingStatements.{simple, line_turn, stmt, stmt_by}

pub expr_at : (d least : ℕ) (ts : List Lexeme) → (d ≡ 0 → ⊥) → expr d least ts ≡ whole (expr (d - 1)) (d - 1) least ts
unfolding expr
expr_at zero least ts h = absurd (h refl)
expr_at (suc d) least ts h = let e : d ≡ suc d - 1 = omega arith in ap (λ k. whole (expr k) k least ts) e

pub expr_none : (least : ℕ) (ts : List Lexeme) → expr 0 least ts ≡ Err ts
unfolding expr
expr_none least ts = refl

pub exprs_at : (d : ℕ) (ts : List Lexeme) → (d ≡ 0 → ⊥) → exprs d ts ≡ (expr d 1 >>= tuple (expr (d - 1)) (d - 1)) ts
unfolding exprs
exprs_at zero ts h = absurd (h refl)
exprs_at (suc d) ts h = let e : d ≡ suc d - 1 = omega arith in ap (λ k. (expr (suc d) 1 >>= tuple (expr k) k) ts) e

pub exprs_none : (ts : List Lexeme) → exprs 0 ts ≡ Err ts
unfolding exprs
exprs_none ts = refl

pub simple_at : (d : ℕ) (ts : List Lexeme) → (d ≡ 0 → ⊥) → simple d ts ≡ many (line_turn (d - 1)) ([], 0) ts
unfolding simple
simple_at zero ts h = absurd (h refl)
simple_at (suc d) ts h = let e : d ≡ suc d - 1 = omega arith in ap (λ k. many (line_turn k) ([], 0) ts) e

pub simple_none : (ts : List Lexeme) → simple 0 ts ≡ Err ts
unfolding simple
simple_none ts = refl

pub stmt_at : (d : ℕ) (ts : List Lexeme) → (d ≡ 0 → ⊥) → stmt d ts ≡ stmt_by (stmt (d - 1)) (d - 1) ts
unfolding stmt
stmt_at zero ts h = absurd (h refl)
stmt_at (suc d) ts h = let e : d ≡ suc d - 1 = omega arith in ap (λ k. stmt_by (stmt k) k ts) e

pub stmt_none : (ts : List Lexeme) → stmt 0 ts ≡ Err ts
unfolding stmt
stmt_none ts = refl
