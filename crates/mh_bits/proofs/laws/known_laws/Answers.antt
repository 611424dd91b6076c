use Rattle.mh_bits.proofs.KnownVectors.{quotient-coded, remainder-coded, less-coded, less_or_equal-coded, greater-coded, greater_or_equal-coded, and-coded, or-coded, xor-coded, inverted-known, equality-known_same, equality-known_apart, shifted_left-coded, shifted_right-coded, extended-coded, selected-coded, joined-known}
use Rattle.mh_bits.proofs.laws.known_laws.Goals as goal

pub returns-clause-quotient : goal.returns-clause-quotient
returns-clause-quotient c = quotient-coded

pub returns-clause-remainder : goal.returns-clause-remainder
returns-clause-remainder c = remainder-coded

pub returns-clause-less : goal.returns-clause-less
returns-clause-less c = less-coded

pub returns-clause-less_or_equal : goal.returns-clause-less_or_equal
returns-clause-less_or_equal c = less_or_equal-coded

pub returns-clause-and : goal.returns-clause-and
returns-clause-and c = and-coded

pub returns-clause-or : goal.returns-clause-or
returns-clause-or c = or-coded

pub returns-clause-xor : goal.returns-clause-xor
returns-clause-xor c = xor-coded

pub returns-clause-not : goal.returns-clause-not
returns-clause-not c = inverted-known

pub returns-clause-equal : goal.returns-clause-equal
returns-clause-equal c = equality-known_same

pub returns-clause-unequal : goal.returns-clause-unequal
returns-clause-unequal c = equality-known_apart

pub returns-clause-left : goal.returns-clause-left
returns-clause-left c = shifted_left-coded

pub returns-clause-right : goal.returns-clause-right
returns-clause-right c = shifted_right-coded

pub returns-clause-extension : goal.returns-clause-extension
returns-clause-extension c = extended-coded

pub returns-clause-part : goal.returns-clause-part
returns-clause-part c = selected-coded

pub returns-clause-concatenation : goal.returns-clause-concatenation
returns-clause-concatenation c = joined-known

pub returns-clause-greater : goal.returns-clause-greater
returns-clause-greater c = greater-coded

pub returns-clause-greater_or_equal : goal.returns-clause-greater_or_equal
returns-clause-greater_or_equal c = greater_or_equal-coded
