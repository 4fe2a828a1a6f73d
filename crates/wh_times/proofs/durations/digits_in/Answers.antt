use Rattle.std.proofs.Common.{rules, ◌≡◌, true, ◌∙◌, ◌<◌, ◌≤◌, length}
use Rattle.std.specs.List.{list_all}
use Rattle.std.specs.Char.{is_ascii_digit}
use Rattle.wh_json.proofs.Numbers.{parsed_number}
use Rattle.wh_times.proofs.durations.digits_in.Goals as goal

pub returns : goal.returns
returns c =
    let digits : list_all is_ascii_digit c.args.text.now ≡ true = search rules in
    let some : 0 < length c.args.text.now = search rules in
    let short : length c.args.text.now ≤ 19 = search rules in
    c.ok.ensures.value ∙ parsed_number _ _ c.parse.ensures.value.0 some short digits
