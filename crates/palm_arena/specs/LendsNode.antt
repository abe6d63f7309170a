-- What a lease ends with, after its node was written through a `&mut`.
use Rattle.std.specs.Borrow.{Lends, MutBor, Fml}
use Rattle.palm_node.specs.declared.node.Node.{Node}
use Rattle.palm_node.specs.contracts.node.Node as node
use Rattle.palm_arena.specs.contracts.lease.Lease.{the_row}
use Rattle.palm_arena.specs.LeaseState.{LeaseState}

-- The lease lends its node: what is written to the node is the lease's node afterwards, and its id stays.
-- So a lease of the id 2 in whose node the leaf b is put ends as the lease of the id 2 and the node b.
abbrev pub LendsNode : MutBor LeaseState → MutBor Node → Fml
LendsNode lease lent = Lends the_row node.the_row lease lent (λ w. record lease.now { node = w })
