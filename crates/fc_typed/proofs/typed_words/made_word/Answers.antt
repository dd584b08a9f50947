use Rattle.std.proofs.Common.{◌+◌, length, refl, sym, ◌∙◌, ap, arith}
use Rattle.std.proofs.lemmas.List.{length-drop, take_rest}
use Rattle.std.proofs.lemmas.Bool.{cond-true, cond-false}
use Rattle.fc_typed.proofs.TypedLemmas.{piece_behind, piece_here, piece_last}
use Rattle.fc_typed.proofs.typed_words.made_word.Goals as goal

pub returns-then-is_made_of : goal.returns-then-is_made_of
returns-then-is_made_of c = record {
  value =
      piece_here c.args.word.now c.loop-len.rest.now _ c.in-Some.len c.is_made_of.result _ (sym c.piece_len.ensures ∙ c.in-Some.is) refl
      c.is_made_of.ensures c.loop-len.invariant.told c.if-is_made_of.true;
}

pub loop-len-preserved : goal.loop-len-preserved
loop-len-preserved c =
    let rest = c.loop-len.rest.now in
    let left = take_rest rest (c.in-Some.len + 1) in
    record {
      told =
          piece_behind c.args.word.now rest _ c.in-Some.len c.is_made_of.result _ (sym c.piece_len.ensures ∙ c.in-Some.is) left
          c.is_made_of.ensures c.loop-len.invariant.told c.if-is_made_of.false;
      within = omega (arith, ap length left, length-drop (c.in-Some.len + 1) rest, c.loop-len.invariant.within);
    }

pub returns-then-is_made_of-2 : goal.returns-then-is_made_of-2
returns-then-is_made_of-2 c = record {
  value =
      sym (cond-true _ _ _ c.if-is_made_of-2.true)
      ∙ piece_last c.args.word.now c.loop-len.rest.now c.is_made_of-2.result _ (sym c.piece_len.ensures ∙ c.in_default.is) c.is_made_of-2.ensures
      c.loop-len.invariant.told;
}

pub returns-else-is_made_of-2 : goal.returns-else-is_made_of-2
returns-else-is_made_of-2 c = record {
  value =
      sym (cond-false _ _ _ c.if-is_made_of-2.false)
      ∙ piece_last c.args.word.now c.loop-len.rest.now c.is_made_of-2.result _ (sym c.piece_len.ensures ∙ c.in_default.is) c.is_made_of-2.ensures
      c.loop-len.invariant.told;
}
