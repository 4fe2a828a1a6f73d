-- What is told of calls that failed.
use Rattle.std.specs.Prelude.{ℕ, ℤ, List, ◌++◌, codes, string_bytes}
use Rattle.std.specs.Fmt.{signed_decimal}
use Rattle.wh_client.specs.declared.asking.AskFault.{AskFault}
use Rattle.wh_client.specs.declared.asking.AskFault.TheVariants as asked
use Rattle.wh_client.specs.declared.codes.PollEnd.{PollEnd}
use Rattle.wh_client.specs.declared.codes.PollEnd.TheVariants.{Closed, Never, Later}
use Rattle.wh_notes.specs.declared.texts.PollWords.{PollWords}
use Rattle.wh_tester.specs.Report as report
use Rattle.wh_tester.specs.Report.{shown}

-- why a call was refused
abbrev pub refusal_text : ℤ → List ℕ → List ℕ
refusal_text code message = shown message ++ (codes " (code " ++ (signed_decimal code ++ codes ")"))

-- why a call has no usable result
abbrev pub fault_text : AskFault → List ℕ
fault_text asked.Closed = codes "the bridge has closed"
fault_text asked.Output = codes "a request can't be written"
fault_text (asked.Refused status code message) = refusal_text code (string_bytes message)
fault_text asked.Unreadable = codes "a result can't be read"
fault_text asked.TooManyPages = codes "a history has too many pages"
fault_text (asked.History fault) = report.fault_text fault
fault_text asked.OutOfMemory = codes "out of memory"

-- ---- Polls that failed

-- a poll that was refused, in the words of the bridge, and with what follows if no later one can succeed
abbrev pub refused_poll_text : (text : List ℕ) → PollEnd → List ℕ
refused_poll_text text Never =
    text ++ codes ": no more tasks are polled for; the program ends, and is to be started again"
refused_poll_text text Later = text
refused_poll_text text Closed = text

-- what becomes of a poll that has no usable result: it is not made again; or its task is lost, and it is made again
abbrev pub after_poll_text : (loss : List ℕ) → PollEnd → List ℕ
after_poll_text loss Never = codes "; not made again"
after_poll_text loss Later = codes "; " ++ (loss ++ codes "; made again")
after_poll_text loss Closed = codes "; " ++ (loss ++ codes "; made again")

-- a poll that has no usable result: `METHOD of QUEUE: WHY; what becomes of it`
abbrev pub lost_poll_text : PollWords → (text : List ℕ) → PollEnd → List ℕ
lost_poll_text words text end =
    words.method.now ++ (codes " of " ++ (shown words.queue.now
    ++ (codes ": " ++ (text ++ after_poll_text words.loss.now end))))

-- why a poll failed, and what follows
abbrev pub poll_text : PollWords → AskFault → PollEnd → List ℕ
poll_text words (asked.Refused status code message) end =
    refused_poll_text (refusal_text code (string_bytes message)) end
poll_text words asked.Closed end = lost_poll_text words (fault_text asked.Closed) end
poll_text words asked.Output end = lost_poll_text words (fault_text asked.Output) end
poll_text words asked.Unreadable end = lost_poll_text words (fault_text asked.Unreadable) end
poll_text words asked.TooManyPages end = lost_poll_text words (fault_text asked.TooManyPages) end
poll_text words (asked.History fault) end = lost_poll_text words (fault_text (asked.History fault)) end
poll_text words asked.OutOfMemory end = lost_poll_text words (fault_text asked.OutOfMemory) end
