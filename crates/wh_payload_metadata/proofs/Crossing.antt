-- Calls that keep what they bring may be shared by threads where the calls below them may.
use denote.RattleType.{RattleType}
use denote.Ref.{NamedLft, ShrRef}
use denote.Struct.Field.{row_field}
use denote.Struct.Field as denoted
use denote.Hole.{as_row}
use denote.Param.Send.{IsSend, IsSync, shr_sync, sendable}
use denote.Param.SendFields.{declared_send, declared_sync, as_row_send, as_row_sync}
use Rattle.std.proofs.Crossing as heap
use Rattle.std.proofs.MapsCrossing as maps
use Rattle.std.proofs.hash.BuildHasherDefault.TheSendSync as build
use Rattle.std.proofs.hash.FoldHasher.TheSendSync as fold
use Rattle.std.proofs.string.String.TheSendSync as string
use Rattle.std.proofs.sync.Mutex.TheSendSync as mutex
use Rattle.std.proofs.sync.atomic.AtomicBool.TheSendSync as atomic_bool
use Rattle.lru.proofs.cache.LruCache.TheSendSync as lru
use Rattle.serde_json.proofs.number.Number.TheSendSync as number
use Rattle.serde_json.proofs.value.Value.TheLaws.TheKnot as value
use Rattle.std.specs.contracts.alloc.Global as Global
use Rattle.std.specs.contracts.impls.GlobalAllocator.TheImpl.{ghosts}
use Rattle.std.specs.contracts.impls.StringOrd.TheImpl as ordered
use Rattle.std.specs.contracts.impls.StringPartialEq.TheImpl as equal
use Rattle.std.specs.contracts.impls.StringPartialOrd.TheImpl as compared
use Rattle.std.specs.contracts.collections.BTreeMap as BTreeMap
use Rattle.std.specs.contracts.hash.BuildHasherDefault as Build
use Rattle.std.specs.contracts.hash.FoldHasher as Fold
use Rattle.std.specs.contracts.string.String as String
use Rattle.serde_json.specs.contracts.value.Value as Value
use Rattle.wh_payload_metadata.specs.contracts.header.Field as Field
use Rattle.wh_payload_metadata.specs.contracts.header.Header as Header
use Rattle.wh_payload_metadata.specs.contracts.seen.SeenPayloads as SeenPayloads
use Rattle.wh_payload_metadata.specs.contracts.kept.KeptRuns as KeptRuns
use Rattle.wh_payload_metadata.specs.contracts.open_tasks.OpenTasks as OpenTasks
use Rattle.wh_payload_metadata.specs.contracts.calls.KeepingCalls as KeepingCalls

abbrev text : RattleType
text = String.the_row Global.the_row ghosts

abbrev hasher : RattleType
hasher = Build.the_row Fold.the_row

abbrev map_field : RattleType → denoted.Field
map_field V = BTreeMap.the_field text V Global.the_row
    (ordered.ghosts Global.the_row ghosts ordered.no_dict ordered.no_dict)
    (equal.ghosts Global.the_row ghosts equal.no_dict equal.no_dict)
    (compared.ghosts Global.the_row ghosts compared.no_dict compared.no_dict)
    ghosts

map_send : (V : RattleType) → IsSend V → IsSend (as_row (map_field V))
map_send V s = as_row_send (map_field V) (maps.BTreeMap-send text V
    (ordered.ghosts Global.the_row ghosts ordered.no_dict ordered.no_dict)
    (equal.ghosts Global.the_row ghosts equal.no_dict equal.no_dict)
    (compared.ghosts Global.the_row ghosts compared.no_dict compared.no_dict)
    maps.String-send s)

hasher_send : IsSend hasher
hasher_send = build.the_send Fold.the_row fold.the_send

-- A value may hold values, so its proof is the knot's.
Value-send : IsSend Value.the_row
Value-send = as_row_send Value.the_field (value.send-Value (search sendable) number.the_field_send
    (string.the_field_send Global.the_row ghosts heap.send heap.frees) heap.Vec-send map_send)

Field-send : IsSend Field.the_row
Field-send = declared_send Field.the_type (search sendable, (Value-send, tt))

Header-send : IsSend Header.the_row
Header-send = declared_send Header.the_type (map_send Field.the_row Field-send, tt)

SeenPayloads-send : IsSend SeenPayloads.the_row
SeenPayloads-send = declared_send SeenPayloads.the_type (map_send Value.the_row Value-send, (Header-send, tt))

KeptRuns-send : IsSend KeptRuns.the_row
KeptRuns-send = declared_send KeptRuns.the_type (
  heap.send,
  (
    lru.the_send text SeenPayloads.the_row hasher Global.the_row Fold.the_row _ _ _ _ _ ghosts
        maps.String-send SeenPayloads-send hasher_send heap.send maps.String-sync heap.frees,
    tt,
  ),
)

OpenTasks-send : IsSend OpenTasks.the_row
OpenTasks-send = declared_send OpenTasks.the_type (
  lru.the_send text text hasher Global.the_row Fold.the_row _ _ _ _ _ ghosts
      maps.String-send maps.String-send hasher_send heap.send maps.String-sync heap.frees,
  tt,
)

pub KeepingCalls-sync : (κ : NamedLft) (C : RattleType) → IsSync C → IsSync (KeepingCalls.the_row κ C)
KeepingCalls-sync κ C c = declared_sync (KeepingCalls.the_type κ C) (
  as_row_sync (row_field (ShrRef κ.mir κ.lft C)) (shr_sync κ.mir κ.lft C c),
  (
    atomic_bool.the_sync,
    (
      mutex.the_sync KeptRuns.the_row KeptRuns-send,
      (
        mutex.the_sync KeptRuns.the_row KeptRuns-send,
        (mutex.the_sync OpenTasks.the_row OpenTasks-send, (mutex.the_sync OpenTasks.the_row OpenTasks-send, tt)),
      ),
    ),
  ),
)
