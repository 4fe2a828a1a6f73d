use Rattle.std.proofs.Common.{ℕ, List, ◌++◌}
use Rattle.std.specs.Prelude.{string_bytes}
use Rattle.std.specs.Str.Chunks.{utf8_chunks_rest}
use Rattle.wh_console.specs.Names.{IsMarked}
use Rattle.wh_console.proofs.files.lossy_text.Given as goal

-- the text so far, and after it that of the bytes that are left, is the text of all bytes
abbrev pub invariant-loop-chunk : goal.invariant-loop-chunk
invariant-loop-chunk l =
    (text : List ℕ) → IsMarked (utf8_chunks_rest l.chunk-iterator) text → IsMarked l.fn.bytes (string_bytes l.shown ++ text)
