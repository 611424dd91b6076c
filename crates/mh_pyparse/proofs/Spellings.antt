-- Each sign and word of the grammar is the row of what Python writes for it.
use Rattle.std.proofs.Common.{◌≡◌, Some, ◌++◌, codes, refl}
use Rattle.mh_text.specs.Rows.{found}
use Rattle.mh_pytok.specs.Words.{keywords, signs, word_of}
use Rattle.mh_pytok.specs.declared.token.Tok.{Tok}
use Rattle.mh_pytree.specs.declared.expression.Operator.{Operator}
use Rattle.mh_pytree.specs.declared.expression.Operator.TheVariants.{Or, And, Equal, NotEqual, Less, LessEqual, Greater, GreaterEqual, BitOr, BitXor, BitAnd, ShiftLeft, ShiftRight, Add, Subtract, Multiply, Divide, Remainder}
use Rattle.mh_pytree.specs.declared.expression.Sign.{Sign}
use Rattle.mh_pytree.specs.declared.expression.Sign.TheVariants.{Minus, Plus, Invert}
use Rattle.mh_pyparse.specs.Signs.{spelled, augmented, prefix_sign}
use Rattle.mh_pyparse.specs.Spelling.{IsSpelled, AreSpelled, written, written_before, words, marks}

pub operator_spelled : (op : Operator) → IsSpelled (written op) (spelled op)
unfolding word_of found keywords signs
operator_spelled Or = refl
operator_spelled And = refl
operator_spelled Equal = refl
operator_spelled NotEqual = refl
operator_spelled Less = refl
operator_spelled LessEqual = refl
operator_spelled Greater = refl
operator_spelled GreaterEqual = refl
operator_spelled BitOr = refl
operator_spelled BitXor = refl
operator_spelled BitAnd = refl
operator_spelled ShiftLeft = refl
operator_spelled ShiftRight = refl
operator_spelled Add = refl
operator_spelled Subtract = refl
operator_spelled Multiply = refl
operator_spelled Divide = refl
operator_spelled Remainder = refl

-- an operator's sign with `=` behind it, where that assigns
pub augmented_spelled : (op : Operator) (kind : Tok) → augmented op ≡ Some kind → IsSpelled (written op ++ codes "=") kind
unfolding word_of found keywords signs
augmented_spelled Or kind e = e
augmented_spelled And kind e = e
augmented_spelled Equal kind e = e
augmented_spelled NotEqual kind e = e
augmented_spelled Less kind e = absurd (cc)
augmented_spelled LessEqual kind e = e
augmented_spelled Greater kind e = absurd (cc)
augmented_spelled GreaterEqual kind e = e
augmented_spelled BitOr kind e = e
augmented_spelled BitXor kind e = e
augmented_spelled BitAnd kind e = e
augmented_spelled ShiftLeft kind e = e
augmented_spelled ShiftRight kind e = e
augmented_spelled Add kind e = e
augmented_spelled Subtract kind e = e
augmented_spelled Multiply kind e = e
augmented_spelled Divide kind e = e
augmented_spelled Remainder kind e = e

pub sign_spelled : (sign : Sign) → IsSpelled (written_before sign) (prefix_sign sign)
unfolding word_of found keywords signs
sign_spelled Minus = refl
sign_spelled Plus = refl
sign_spelled Invert = refl

also : {A B : Type 0} → A → B → A × B
also a b = (a, b)

pub words_spelled : AreSpelled words
unfolding word_of found keywords signs
words_spelled = also refl (also refl (also refl (also refl (also refl (also refl (also refl (also refl (also refl (also refl (also refl (also refl (also refl (also refl (also refl (also refl (also refl (also refl (also refl (also refl (tt))))))))))))))))))))

pub marks_spelled : AreSpelled marks
unfolding word_of found keywords signs
marks_spelled = also refl (also refl (also refl (also refl (also refl (also refl (also refl (also refl (also refl (also refl (also refl (tt)))))))))))
