use Rattle.std.proofs.Common.{◌≡◌, ◌++◌, [], cond, sym, append-nil, rules}
use Rattle.std.specs.Prelude.{is_ok}
use Rattle.fc_lists.specs.Alone.{IsWordedLine, has_none, in_letters, in_words, line_letters, told_text}
use Rattle.fc_lists.proofs.AloneLemmas.{pushed_as, pushed_by}
use Rattle.fc_lists.proofs.list_lines.push_worded.Goals as goal

pub returns-in-Some : goal.returns-in-Some
returns-in-Some c = record {
  pushed = pushed_as (IsWordedLine c.args.has_sequences c.args.line.now) c.push_told.result c.args.list.now.items c.push_told.new.list.items
      (told_text c.args.has_sequences c.in-Some.told) (in_words c.in-Some.told c.in-Some.ensures.told) c.push_told.ensures.pushed;
}

pub returns-then-is_in_letters : goal.returns-then-is_in_letters
returns-then-is_in_letters c =
    let items : c.extend_from_slice.new.self.items ≡ cond (is_ok c.extend_from_slice.result) (c.args.list.now.items ++ line_letters c.args.line.now) c.args.list.now.items = search rules in
    record {
      pushed = pushed_by (IsWordedLine c.args.has_sequences c.args.line.now) c.extend_from_slice.result c.args.list.now.items c.extend_from_slice.new.self.items
          (line_letters c.args.line.now)
          (in_letters (λ w. c.in_default.ensures.refused w.0 w.1) (c.is_in_letters.ensures.value.0 c.if-is_in_letters.true)) items;
    }

pub returns : goal.returns
returns c = record {
  pushed = (
    [],
    has_none (λ w. c.in_default.ensures.refused w.0 w.1) (λ is. absurd (cc (c.is_in_letters.ensures.value.1 is, c.if-is_in_letters.false))),
    sym (append-nil c.args.list.now.items),
  );
}
