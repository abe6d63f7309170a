use Rattle.palm_route.proofs.ListLeaves.{lists_meet_leaves, keys_come_home}
use Rattle.palm_route.proofs.laws.lists_meet_leaves.Goals as goal

pub returns-clause-keys : goal.returns-clause-keys
returns-clause-keys c = lists_meet_leaves

pub returns-clause-home : goal.returns-clause-home
returns-clause-home c = keys_come_home
