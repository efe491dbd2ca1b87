-- That what a handle holds may go to another thread, and that a frozen map may be read by many.
use denote.Param.Send.{IsSend, IsSync, sendable}
use Rattle.std.proofs.Crossing.{crosses}
use Rattle.std.specs.contracts.alloc.Global as Heap
use Rattle.std.specs.contracts.impls.GlobalAllocator.TheImpl.{ghosts}
use Rattle.std.proofs.alloc.Global.TheSendSync as heap
use Rattle.bw_delta.proofs.base.Base.TheSendSync as base
use Rattle.bw_delta.proofs.chain.Chain.TheLaws.TheKnot as chain
use Rattle.bw_procedures.proofs.past.Past.TheSendSync as past
use Rattle.bw_table.specs.contracts.table.Table as Table
use Rattle.nifforan.specs.contracts.map.Map as Map
use Rattle.nifforan_handle.specs.contracts.held.Held as Held

Table-send : IsSend (Table.the_field Heap.the_row ghosts).row
Table-send = search (chain.send-Chain, base.the_send, heap.the_send, sendable, crosses) depth 60 fits 10000

Table-sync : IsSync (Table.the_field Heap.the_row ghosts).row
Table-sync = search (chain.sync-Chain, base.the_sync, heap.the_sync, sendable, crosses) depth 60 fits 10000

Map-send : IsSend (Map.the_field Heap.the_row ghosts).row
Map-send = search (Table-send, heap.the_field_send, past.the_send, sendable, crosses) depth 60 fits 10000

Map-sync : IsSync (Map.the_field Heap.the_row ghosts).row
Map-sync = search (Table-sync, heap.the_field_sync, past.the_sync, sendable, crosses) depth 60 fits 10000

pub Held-send : IsSend Held.the_row
Held-send = search (Map-send, Map-sync, sendable, crosses) depth 60 fits 10000
