-- That threads may share a tree: one that takes any key, and one of a forest.
use denote.RattleType.{RattleType}
use denote.Param.Send.{IsSend, IsSync, sendable, struct_sync}
use denote.Struct.Declared.{shape}
use Rattle.std.proofs.Crossing.{crosses}
use Rattle.std.specs.contracts.alloc.Global as Heap
use Rattle.std.specs.contracts.impls.GlobalAllocator.TheImpl.{ghosts}
use Rattle.std.proofs.alloc.Global.TheSendSync as heap
use Rattle.std.specs.declared.sync.ledger.Ledger as ledger
use Rattle.bw_delta.proofs.base.Base.TheSendSync as base
use Rattle.bw_delta.proofs.chain.Chain.TheLaws.TheKnot as chain
use Rattle.bw_keys.specs.contracts.range.Range as Range
use Rattle.bw_table.specs.contracts.table.Table as Table
use Rattle.bw_tree.specs.declared.made_by.MadeBy as made_by
use Rattle.bw_tree.proofs.stock.Stock.TheSendSync as stock
use Rattle.bw_tree.proofs.stock.Totals.TheSendSync as totals
use Rattle.bw_tree.specs.contracts.keys.AnyKey as AnyKey
use Rattle.bw_tree.specs.contracts.keys.AnyKeyKeys.TheImpl as any_key
use Rattle.bw_tree.specs.contracts.keys.RangeKeys.TheImpl as range
use Rattle.bw_tree.specs.contracts.tree.Tree as Tree

pub Table-send : IsSend (Table.the_field Heap.the_row ghosts).row
Table-send = search (chain.send-Chain, base.the_send, heap.the_send, sendable, crosses) depth 60 fits 10000

module _ (R I D : RattleType) (made : made_by.Ghosts I.Denot) (counts : ledger.Ghosts I.Denot) (removals : ledger.Ghosts D.Denot) where
  pub Tree-sync : IsSend R → IsSync R → IsSync (Tree.the_field R Heap.the_row I D AnyKey.the_row made any_key.ghosts ghosts counts removals).row
  Tree-sync r y = struct_sync (shape (Tree.the_type R Heap.the_row I D AnyKey.the_row made any_key.ghosts ghosts counts removals)) (
    search (y, sendable),
    (
      search sendable depth 60,
      (
        search sendable depth 60,
        (
          search (Table-send, stock.the_send, totals.the_send, sendable, crosses) depth 80 fits 10000,
          tt,
        ),
      ),
    ),
  )

  pub ForestTree-sync : IsSend R → IsSync R → IsSync (Tree.the_field R Heap.the_row I D Range.the_row made range.ghosts ghosts counts removals).row
  ForestTree-sync r y = struct_sync (shape (Tree.the_type R Heap.the_row I D Range.the_row made range.ghosts ghosts counts removals)) (
    search (y, sendable),
    (
      search sendable depth 60,
      (
        search sendable depth 60,
        (
          search (Table-send, stock.the_send, totals.the_send, sendable, crosses) depth 80 fits 10000,
          tt,
        ),
      ),
    ),
  )
