use Rattle.std.proofs.Common.{◌≡◌, ◌++◌, [], cond, sym, ◌∙◌, append-nil, rules}
use Rattle.std.specs.Prelude.{codes, is_ok}
use Rattle.fc_sequences.specs.Pair.{pair_text}
use Rattle.fc_lists.specs.Alone.{IsSaidLine, says, says_no_entry, says_nothing}
use Rattle.fc_lists.proofs.AloneLemmas.{pushed_by}
use Rattle.fc_lists.proofs.list_lines.push_saying.Goals as goal

pub returns-then-not-begins_saying : goal.returns-then-not-begins_saying
returns-then-not-begins_saying c = record {
  pushed = ([], says_nothing (sym c.begins_saying.ensures.value ∙ c.if-not-begins_saying.true), sym (append-nil c.args.list.now.items));
}

pub returns-in-Some : goal.returns-in-Some
returns-in-Some c =
    let begins = sym c.begins_saying.ensures.value ∙ c.if-not-begins_saying.false in
    let items : c.extend_from_slice.new.self.items ≡ cond (is_ok c.extend_from_slice.result) (c.args.list.now.items ++ pair_text c.in-Some.pair) c.args.list.now.items = search rules in
    record {
      pushed = pushed_by (IsSaidLine c.args.line.now) c.extend_from_slice.result c.args.list.now.items c.extend_from_slice.new.self.items (pair_text c.in-Some.pair)
          (says c.in-Some.pair begins c.in-Some.ensures.said) items;
    }

pub returns-in-None : goal.returns-in-None
returns-in-None c =
    let begins = sym c.begins_saying.ensures.value ∙ c.if-not-begins_saying.false in
    let items : c.extend_from_slice-in-None.new.self.items ≡ cond (is_ok c.extend_from_slice-in-None.result) (c.args.list.now.items ++ codes "Move") c.args.list.now.items = search rules in
    record {
      pushed = pushed_by (IsSaidLine c.args.line.now) c.extend_from_slice-in-None.result c.args.list.now.items c.extend_from_slice-in-None.new.self.items (codes "Move")
          (says_no_entry begins (λ said. c.in-None.ensures.refused said.0 said.1)) items;
    }
