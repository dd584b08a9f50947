use Rattle.std.proofs.Common.{◌≡◌, ℕ, List, Bool, ◌+◌, ◌<◌, ◌||◌, ◌∷◌, [], length, map, get_or, drop, sym, ◌∙◌, ap}
use denote.Bor.{Bor}
use Rattle.std.specs.List.{list_any}
use Rattle.std.specs.Str.{bytes_eq}
use Rattle.std.proofs.lemmas.List.{at_drop_more, get_or-map, length-map}
use Rattle.fc_notes.proofs.reasons.is_one_of.Goals as goal

word_here : (F : List (List ℕ) → Bool) (words : List (Bor (List ℕ))) (i : ℕ) (d : Bor (List ℕ)) → i < length words
    → F (drop i (map (λ (n : Bor (List ℕ)). n.now) words))
    ≡ F ((get_or words i d).now ∷ drop (i + 1) (map (λ (n : Bor (List ℕ)). n.now) words))
word_here F words i d within =
    at_drop_more F (map (λ (n : Bor (List ℕ)). n.now) words) i [] (rw length-map within)
    ∙ ap (λ x. F (x ∷ drop (i + 1) (map (λ (n : Bor (List ℕ)). n.now) words))) (get_or-map (λ (n : Bor (List ℕ)). n.now) words i d [] within)

pub returns-then-is_word : goal.returns-then-is_word
returns-then-is_word c =
    let d : Bor (List ℕ) = record { ref_ptr = (0, 0); now = [] } in
    let others = drop (c.loop-word.word-index + 1) (map (λ n. n.now) c.args.words.now) in
    record {
      value =
          ap (λ (b : Bool). b || list_any (λ word. bytes_eq word c.args.token.now) others) (sym c.if-is_word.true ∙ c.is_word.ensures.value)
          ∙ sym (word_here (list_any (λ word. bytes_eq word c.args.token.now)) c.args.words.now c.loop-word.word-index d c.loop-word-test.true)
          ∙ c.loop-word.invariant;
    }

pub loop-word-preserved : goal.loop-word-preserved
loop-word-preserved c =
    let d : Bor (List ℕ) = record { ref_ptr = (0, 0); now = [] } in
    let others = drop (c.loop-word.word-index + 1) (map (λ n. n.now) c.args.words.now) in
    ap (λ (b : Bool). b || list_any (λ word. bytes_eq word c.args.token.now) others) (sym c.if-is_word.false ∙ c.is_word.ensures.value)
    ∙ sym (word_here (list_any (λ word. bytes_eq word c.args.token.now)) c.args.words.now c.loop-word.word-index d c.loop-word-test.true)
    ∙ c.loop-word.invariant
