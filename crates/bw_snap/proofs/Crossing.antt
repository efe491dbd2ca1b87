-- Which of this crate's types may cross threads.
use denote.RattleType.{RattleType}
use denote.Param.Send.{IsSend, IsSync, sendable, struct_send, struct_sync, view_send}
use denote.Struct.Declared.{shape}
use Rattle.std.proofs.Crossing.{crosses}
use Rattle.std.specs.contracts.alloc.Global as Heap
use Rattle.std.specs.contracts.impls.GlobalAllocator.TheImpl.{ghosts}
use Rattle.std.proofs.alloc.Global.TheSendSync as heap
use Rattle.core.specs.declared.ledger.Ledger as ledger
use Rattle.logbook.proofs.tokens.Seen.TheSendSync as seen
use Rattle.logbook.proofs.word.Word.TheSendSync as word
use Rattle.bw_delta.proofs.base.Base.TheSendSync as base
use Rattle.bw_delta.proofs.chain.Chain.TheLaws.TheKnot as chain
use Rattle.bw_delta.specs.contracts.chain.Spare as Spare
use Rattle.bw_step.specs.contracts.step.Step as Step
use Rattle.bw_tree.proofs.stock.Stock.TheSendSync as stock
use Rattle.bw_tree.proofs.stock.Totals.TheSendSync as totals
use Rattle.bw_tree.proofs.Crossing.{Table-send}
use Rattle.bw_tree.specs.declared.made_by.MadeBy as made_by
use Rattle.bw_snap.specs.declared.front.Naming as naming
use Rattle.bw_snap.specs.contracts.front.Front as Front
use Rattle.bw_snap.specs.contracts.note.Note as Note
use Rattle.bw_snap.specs.contracts.published.Published as Published
use Rattle.bw_snap.specs.contracts.published.Published.TheInside as Inside
use Rattle.bw_snap.specs.contracts.read_tree.ReadTree as ReadTree
use Rattle.bw_snap.specs.contracts.reader.Reader as Reader
use Rattle.bw_snap.specs.contracts.shown.Shown as Shown
use Rattle.bw_table.specs.contracts.table.Table as Table
use Rattle.left_right.proofs.reader.Reader.TheSendSync as reading
use Rattle.left_right.proofs.writer.Writer.TheSendSync as writing

Spare-send : IsSend (Spare.the_row Heap.the_row ghosts)
Spare-send = search (chain.send-Chain, base.the_send, heap.the_send, sendable, crosses) depth 60

Step-send : IsSend (Step.the_field Heap.the_row ghosts).row
Step-send = search (Spare-send, base.the_send, heap.the_send, sendable, crosses) depth 60 fits 10000

Front-send : IsSend (Front.the_field).row
Front-send = search (seen.the_send, sendable, crosses) depth 60

Front-sync : IsSync (Front.the_field).row
Front-sync = search (seen.the_sync, sendable, crosses) depth 60

Note-send : IsSend (Note.the_field).row
Note-send = search (Step-send, Front-send, sendable, crosses) depth 60

Table-sync : IsSync (Table.the_field Heap.the_row ghosts).row
Table-sync = search (chain.sync-Chain, base.the_sync, heap.the_sync, sendable, crosses) depth 60 fits 10000

Shown-send : IsSend (Shown.the_field).row
Shown-send = search (Table-send, Front-send, heap.the_field_send, sendable, crosses) depth 60

Shown-sync : IsSync (Shown.the_field).row
Shown-sync = search (Table-sync, Front-sync, heap.the_field_sync, sendable, crosses) depth 60

module _ (N : RattleType) (names : naming.Ghosts N.Denot) (made : made_by.Ghosts N.Denot) (counts : ledger.Ghosts N.Denot) where
  pub Reader-send : IsSend (Reader.the_field N names made counts).row
  Reader-send = search (Front-send, Shown-sync, reading.the_field_send, sendable, crosses) depth 60 fits 10000

module _ (R N D : RattleType) (names : naming.Ghosts N.Denot) (made : made_by.Ghosts N.Denot) (counts : ledger.Ghosts N.Denot) (removals : ledger.Ghosts D.Denot) where
  Inside-send : IsSend R → IsSend (Inside.the_field R N D names made counts removals).row
  Inside-send r = struct_send (shape (Inside.the_type R N D names made counts removals)) (
    search (Table-send, stock.the_send, totals.the_send, sendable, crosses) depth 80 fits 10000,
    (
      search (Note-send, Shown-send, Shown-sync, writing.the_field_send, sendable, crosses) depth 60 fits 10000,
      (
        search (sendable, crosses) depth 60,
        (
          search (word.the_send, sendable, crosses) depth 60,
          (
            search (Front-send, sendable, crosses) depth 60,
            (
              search (r, sendable),
              tt,
            ),
          ),
        ),
      ),
    ),
  )

  Published-send : IsSend R → IsSend (Published.the_row R N D names made counts removals)
  Published-send r = view_send (Inside.the_row R N D names made counts removals) _ _ _ _ (search (Inside-send r, sendable))

  pub ReadTree-sync : IsSend R → IsSync R → IsSync (ReadTree.the_field R N D names made counts removals).row
  ReadTree-sync r y = struct_sync (shape (ReadTree.the_type R N D names made counts removals)) (
    search (y, sendable),
    (
      search (heap.the_field_sync, sendable),
      (
        search sendable depth 60,
        (
          search (Published-send r, sendable, crosses) depth 60,
          tt,
        ),
      ),
    ),
  )
