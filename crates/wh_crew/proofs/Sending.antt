-- A live source over the calls of a bridge may go to another thread.
use denote.RattleType.{RattleType}
use denote.Ref.{NamedLft}
use denote.Struct.Field.{Field}
use denote.Hole.{as_row}
use denote.Param.Send.{IsSend, IsSync, sendable}
use denote.Param.SendFields.{as_row_send}
use Rattle.std.proofs.Crossing as heap
use Rattle.std.proofs.MapsCrossing as maps
use Rattle.std.proofs.string.String.TheSendSync as string
use Rattle.serde_json.proofs.number.Number.TheSendSync as number
use Rattle.serde_json.proofs.value.Value.TheLaws.TheKnot as value
use Rattle.std.specs.contracts.alloc.Global as Global
use Rattle.std.specs.contracts.impls.GlobalAllocator.TheImpl.{ghosts}
use Rattle.std.specs.contracts.impls.StringOrd.TheImpl as ordered
use Rattle.std.specs.contracts.impls.StringPartialEq.TheImpl as equal
use Rattle.std.specs.contracts.impls.StringPartialOrd.TheImpl as compared
use Rattle.std.specs.contracts.collections.BTreeMap as BTreeMap
use Rattle.std.specs.contracts.string.String as String
use Rattle.serde_json.specs.contracts.value.Value as Value
use Rattle.wh_client.proofs.options.LiveOptions.TheSendSync as liveOptions
use Rattle.wh_client.proofs.options.TaskQueueKind.TheSendSync as role
use Rattle.wh_events.proofs.event.Event.TheSendSync as event
use Rattle.wh_events.proofs.key.RunKey.TheSendSync as runKey
use Rattle.wh_events.proofs.lists.Text.TheSendSync as text
use Rattle.wh_events.proofs.ghost_list.GhostList.TheSendSync as ghostList
use Rattle.wh_tasks.proofs.cell.ActivityCell.TheSendSync as activityCell
use Rattle.wh_notes.proofs.journals.Journal.TheSendSync as journal
use Rattle.wh_host.below.wh_slots.proofs.TaskName.TheSendSync as taskName
use Rattle.wh_live.specs.contracts.live_source.LiveSource.{the_row}
use Rattle.wh_crew.specs.contracts.bridge_connection.BridgeConnection as BridgeConnection

abbrev words : RattleType
words = String.the_row Global.the_row ghosts

abbrev map_field : RattleType → Field
map_field V = BTreeMap.the_field words V Global.the_row
    (ordered.ghosts Global.the_row ghosts ordered.no_dict ordered.no_dict)
    (equal.ghosts Global.the_row ghosts equal.no_dict equal.no_dict)
    (compared.ghosts Global.the_row ghosts compared.no_dict compared.no_dict)
    ghosts

map_send : (V : RattleType) → IsSend V → IsSend (as_row (map_field V))
map_send V s = as_row_send (map_field V) (maps.BTreeMap-send words V
    (ordered.ghosts Global.the_row ghosts ordered.no_dict ordered.no_dict)
    (equal.ghosts Global.the_row ghosts equal.no_dict equal.no_dict)
    (compared.ghosts Global.the_row ghosts compared.no_dict compared.no_dict)
    maps.String-send s)

-- A value may hold values, so its proof is the knot's.
Value-send : IsSend Value.the_row
Value-send = as_row_send Value.the_field (value.send-Value (search sendable) number.the_field_send
    (string.the_field_send Global.the_row ghosts heap.send heap.frees) heap.Vec-send map_send)

members_send : IsSend (as_row (map_field Value.the_row))
members_send = map_send Value.the_row Value-send

pub connection_sync : (ℓ : NamedLft) (R C N : RattleType) → IsSync R → IsSync C → IsSync N
    → IsSync (BridgeConnection.the_row ℓ R C N)
connection_sync ℓ R C N shared called observed =
    search (maps.crosses, heap.crosses, value.crosses, sendable) depth 60 fits 20000

pub source_send : (ℓ : NamedLft) (L Q : RattleType) (bridge : _) (handler : _)
    → IsSync L → IsSync Q → IsSend (the_row ℓ L Q bridge handler)
source_send ℓ L Q bridge handler shared answered =
    search (
      members_send,
      liveOptions.the_sync,
      role.the_field_send,
      event.the_send,
      runKey.the_field_send,
      text.the_send,
      ghostList.the_send,
      activityCell.the_sync,
      journal.the_field_send,
      taskName.the_field_send,
      taskName.the_send,
      maps.crosses,
      heap.crosses,
      sendable,
    ) depth 60 fits 20000
