use Rattle.std.proofs.Common.{◌++◌, ◌∙◌, ap, length, replicate}
use Rattle.std.specs.Prelude.{string_bytes}
use Rattle.std.specs.Str.Chunks.{utf8_chunk_valid}
use Rattle.wh_console.proofs.Marks.{marked_end, marked_on}
use Rattle.wh_console.proofs.files.lossy_text.Goals as goal

-- a run more is made
pub loop-chunk-preserved : goal.loop-chunk-preserved
loop-chunk-preserved c =
    let steps = c.in-Some.ensures.steps in
    let made = string_bytes c.loop-chunk.shown in
    let valid = utf8_chunk_valid c.in-Some.chunk in
    let grown = c.in_ok-push_marks.ensures
    ∙ ap (λ s. s ++ replicate (length c.invalid.result.now) 63) (c.in_ok-push_str.ensures.bytes ∙ ap (λ v. made ++ v) c.valid.ensures)
    ∙ ap (λ v. (made ++ valid) ++ replicate (length v) 63) c.invalid.ensures in
    marked_on _ _ _ _ _ _ _ c.loop-chunk.invariant steps.0 steps.3.0 steps.3.1 grown

-- no bytes are left
pub returns : goal.returns
returns c = marked_end _ _ _ c.loop-chunk.invariant c.in-None.ensures.steps.0
