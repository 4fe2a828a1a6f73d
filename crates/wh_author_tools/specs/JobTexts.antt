-- Jobs as text.
use Rattle.std.specs.Prelude.{ℕ, ◌^◌, ℤ, pos, neg_ℤ, Bool, ◌&&◌, ◌||◌, List, [], ◌∷◌, length, drop, slice_index, Option, Some, None, option_map, bytes_eq, codes, nat_eq, ltb, leb, if◌then◌else◌}
use Rattle.std.specs.List.{slice_split, before_first, after_first}
use Rattle.std.specs.Str.{trim, all_ascii_digits}
use Rattle.std.specs.Str.Parse.{digits_value}
use Rattle.wh_events.specs.declared.event.Payload.{Payload}
use Rattle.wh_workflow.specs.declared.job.Job.{Job}
use Rattle.wh_workflow.specs.declared.job.Job.TheVariants as jobs
use Rattle.wh_workflow.specs.declared.job.ActivityEnd.{ActivityEnd}
use Rattle.wh_workflow.specs.declared.job.ActivityEnd.TheVariants as ends
use Rattle.wh_workflow.specs.declared.job.ChildEnd.{ChildEnd}
use Rattle.wh_workflow.specs.declared.job.ChildEnd.TheVariants as child_ends

-- the text before the first space, or all of it if there is none
abbrev pub head_word : List ℕ → List ℕ
head_word words = before_first (λ byte. nat_eq byte 32) words

-- the text after the first space, or an empty one if there is none
abbrev pub after_space : List ℕ → List ℕ
after_space words = after_first (λ byte. nat_eq byte 32) words

-- the same without whitespace around it
abbrev pub words_after : List ℕ → List ℕ
words_after words = trim (after_space words)

-- a word as a payload with the encoding `json/plain`
abbrev pub payload_of : List ℕ → Payload
payload_of word = record { encoding = codes "json/plain"; content = word }

-- a payload for each word that is not empty
abbrev pub payloads_of : List (List ℕ) → List Payload
payloads_of [] = []
payloads_of (word ∷ rest) = if nat_eq (length word) 0 then payloads_of rest else payload_of word ∷ payloads_of rest

-- a payload for each word of a text, split at spaces
abbrev pub payloads_in : List ℕ → List Payload
payloads_in words = payloads_of (slice_split (λ byte. nat_eq byte 32) words)

-- how an activity ended, from its word and the words after its id
abbrev pub activity_end_of : List ℕ → List ℕ → Option ActivityEnd
activity_end_of word rest =
    if bytes_eq word (codes "done") then Some (ends.Completed (payloads_in rest))
    else (if bytes_eq word (codes "failed") then Some ends.Failed
    else (if bytes_eq word (codes "timed-out") then Some ends.TimedOut
    else (if bytes_eq word (codes "canceled") then Some ends.Canceled else None)))

-- how a child ended, from its word and the words after its id
abbrev pub child_end_of : List ℕ → List ℕ → Option ChildEnd
child_end_of word rest =
    if bytes_eq word (codes "child-done") then Some (child_ends.Completed (payloads_in rest))
    else (if bytes_eq word (codes "child-failed") then Some child_ends.Failed
    else (if bytes_eq word (codes "child-canceled") then Some child_ends.Canceled
    else (if bytes_eq word (codes "child-timed-out") then Some child_ends.TimedOut
    else (if bytes_eq word (codes "child-terminated") then Some child_ends.Terminated
    else (if bytes_eq word (codes "child-not-started") then Some child_ends.StartFailed else None)))))

-- digits, at least one
abbrev pub is_number : List ℕ → Bool
is_number digits = all_ascii_digits digits && leb 1 (length digits)

-- the number of a version without a minus sign, up to 2^31 - 1
abbrev pub plain_version : List ℕ → Option ℤ
plain_version digits =
    if is_number digits && ltb (digits_value 10 digits) (2 ^ 31) then Some (pos (digits_value 10 digits)) else None

-- the number of a version after a minus sign, down to -2^31
abbrev pub negative_version : List ℕ → Option ℤ
negative_version digits =
    if is_number digits && leb (digits_value 10 digits) (2 ^ 31)
    then Some (neg_ℤ (pos (digits_value 10 digits)))
    else None

-- the number of a version
abbrev pub version_of : List ℕ → Option ℤ
version_of number =
    if nat_eq (slice_index number 0) 45 then negative_version (drop 1 number)
    else (if nat_eq (slice_index number 0) 43 then plain_version (drop 1 number) else plain_version number)

-- the job that gives the version of a change
abbrev pub version_job : List ℕ → List ℕ → Option Job
version_job change number = option_map (λ version. jobs.Version change version) (version_of number)

-- the job of these words if it is not the end of an activity or a child
abbrev pub other_job : List ℕ → List ℕ → List ℕ → Option Job
other_job word id rest =
    if bytes_eq word (codes "signal") then Some (jobs.Signal id (payloads_in rest))
    else (if bytes_eq word (codes "fired") then Some (jobs.TimerFired id)
    else (if bytes_eq word (codes "child-started") then Some (jobs.ChildStarted id)
    else (if bytes_eq word (codes "version") then version_job id rest else None)))

-- the first job, or else the second
abbrev pub or_job : Option Job → Option Job → Option Job
or_job (Some job) other = Some job
or_job None other = other

-- the job of a word, an id, and the words after it
abbrev pub job_about : List ℕ → List ℕ → List ℕ → Option Job
job_about word id rest =
    or_job (option_map (λ end. jobs.Activity id end) (activity_end_of word rest))
    (or_job (option_map (λ end. jobs.Child id end) (child_end_of word rest)) (other_job word id rest))

-- such a job takes words after its id
abbrev pub takes_words : List ℕ → Bool
takes_words word =
    bytes_eq word (codes "done") || bytes_eq word (codes "child-done")
    || bytes_eq word (codes "signal") || bytes_eq word (codes "version")

-- the job of a word and the words after it, which begin with an id
abbrev pub job_with_id : List ℕ → List ℕ → Option Job
job_with_id word rest =
    if nat_eq (length (head_word rest)) 0 then None
    else (if nat_eq (length (words_after rest)) 0 || takes_words word
    then job_about word (head_word rest) (words_after rest)
    else None)

-- the job that the words describe, for a run of the workflow type
abbrev pub job_of : List ℕ → List ℕ → Option Job
job_of kind words =
    if bytes_eq (head_word words) (codes "start") then Some (jobs.Start kind (payloads_in (words_after words)))
    else (if bytes_eq words (codes "cancel") then Some jobs.CancelRequested
    else job_with_id (head_word words) (words_after words))
