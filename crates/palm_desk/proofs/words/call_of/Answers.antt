use Rattle.std.proofs.Common.{arith}
use Rattle.palm_desk.proofs.CallWords.{first_key, set_back, del_back, get_back, rate_back, list_back, list_parts, set_rate}
use Rattle.palm_desk.proofs.words.call_of.Goals as goal

pub of_key-requires : goal.of_key-requires
of_key-requires c = first_key c.requires.0 _ _ _ c.requires.1 c.requires.2

pub of_key-requires-in-2 : goal.of_key-requires-in-2
of_key-requires-in-2 c = first_key c.requires.0 _ _ _ c.requires.1 c.requires.2

pub of_key-requires-in-3 : goal.of_key-requires-in-3
of_key-requires-in-3 c = first_key c.requires.0 _ _ _ c.requires.1 c.requires.2

pub of_key-requires-in-4 : goal.of_key-requires-in-4
of_key-requires-in-4 c = first_key c.requires.0 _ _ _ c.requires.1 c.requires.2

pub of_key-requires-in_default : goal.of_key-requires-in_default
of_key-requires-in_default c = first_key c.requires.0 _ _ _ c.requires.1 c.requires.2

pub of_key-requires-in_default-2 : goal.of_key-requires-in_default-2
of_key-requires-in_default-2 c = (list_parts c.requires.0 _ _ _ c.requires.1 c.requires.2 ((λ e. omega arith), (λ e. omega arith), (λ e. omega arith), λ e. omega arith)).0

pub rate_of-requires : goal.rate_of-requires
rate_of-requires c = set_rate c.requires.0 _ _ _ c.requires.1 c.requires.2 c.in-1.is

pub limit_of-requires : goal.limit_of-requires
limit_of-requires c = let p = list_parts c.requires.0 _ _ _ c.requires.1 c.requires.2 ((λ e. omega arith), (λ e. omega arith), (λ e. omega arith), λ e. omega arith) in (p.1, p.2)

pub returns-in-1 : goal.returns-in-1
returns-in-1 c call legal sent = set_back call _ _ _ _ _ legal sent c.in-1.is c.of_key.ensures c.rate_of.ensures

pub returns-in-2 : goal.returns-in-2
returns-in-2 c call legal sent = del_back call _ _ _ _ legal sent c.in-2.is c.of_key-in-2.ensures

pub returns-in-3 : goal.returns-in-3
returns-in-3 c call legal sent = get_back call _ _ _ _ legal sent c.in-3.is c.of_key-in-3.ensures

pub returns-in-4 : goal.returns-in-4
returns-in-4 c call legal sent = rate_back call _ _ _ _ legal sent c.in-4.is c.of_key-in-4.ensures

pub returns-in_default : goal.returns-in_default
returns-in_default c call legal sent = list_back call _ _ _ _ _ _ legal sent ((λ e. omega arith), (λ e. omega arith), (λ e. omega arith), λ e. omega arith) c.of_key-in_default.ensures c.of_key-in_default-2.ensures c.limit_of.ensures
