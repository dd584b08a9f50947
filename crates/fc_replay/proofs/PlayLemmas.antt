-- Tokens that play, and one more.
use Rattle.std.proofs.Common.{◌≡◌, ℕ, List, [], ◌∷◌, ◌++◌, length, refl, sym, ◌∙◌, ap, subst, arith}
use Rattle.fc_cards.specs.declared.places.Place.{Place}
use Rattle.fc_cards.specs.declared.places.Place.TheVariants.{Column, Cell, Home}
use Rattle.fc_position.specs.Board.{Board}
use Rattle.fc_moves.specs.declared.steps.Move.{Move}
use Rattle.fc_moves.specs.GameRules.{GameRules}
use Rattle.fc_moves.specs.MoveText.{IsThere, move_text, place_letter}
use Rattle.fc_moves.specs.Run.{Run}
use Rattle.fc_moves.proofs.StepLemmas.{move_same, source_is_there}
use Rattle.fc_replay.specs.Token.{SpellsMove}
use Rattle.fc_replay.specs.Played.{SpellMoves, Passes, board_after}
use Rattle.fc_replay.specs.Laws.{PlayedTokensRun}

-- no letter is of two places
letter_once : (p q : Place) → IsThere p → IsThere q → place_letter p ≡ place_letter q → p ≡ q
letter_once (Column i) (Column j) one two e = ap (λ k. Column k) (omega arith)
letter_once (Column i) (Cell j) one two e = absurd (omega arith)
letter_once (Column i) Home one two e = absurd (omega arith)
letter_once (Cell i) (Column j) one two e = absurd (omega arith)
letter_once (Cell i) (Cell j) one two e = ap (λ k. Cell k) (omega arith)
letter_once (Cell i) Home one two e = absurd (omega arith)
letter_once Home (Column j) one two e = absurd (omega arith)
letter_once Home (Cell j) one two e = absurd (omega arith)
letter_once Home Home one two e = refl

-- no token spells two moves
pub spelled_once : (token : List ℕ) (m n : Move) → SpellsMove token m → SpellsMove token n → m ≡ n
spelled_once token m n one two =
    let same : move_text m ≡ move_text n = sym one.1 ∙ two.1 in
    let from : place_letter m.from ≡ place_letter n.from = cc same in
    let to : place_letter m.to ≡ place_letter n.to = cc same in
    move_same m n
    (letter_once m.from n.from (source_is_there m.from one.0.from) (source_is_there n.from two.0.from) from)
    (letter_once m.to n.to one.0.to two.0.to to)

-- one more token that spells a move
pub spell_push : (tokens : List (List ℕ)) (ms : List Move) (token : List ℕ) (m : Move) → SpellMoves tokens ms → SpellsMove token m
    → SpellMoves (tokens ++ token ∷ []) (ms ++ m ∷ [])
spell_push [] ms token m none one = subst (λ l. SpellMoves (token ∷ []) (l ++ m ∷ [])) (sym none) (one, refl)
spell_push (t ∷ tokens) [] token m none one = absurd none
spell_push (t ∷ tokens) (n ∷ ms) token m (first, others) one = (first, spell_push tokens ms token m others one)

-- moves and those that go on from where they lead
pub passes_append : (g : GameRules) (b : Board) (ms ns : List Move) (boards others : List Board) → Passes g b ms boards
    → Passes g (board_after b boards) ns others → Passes g b (ms ++ ns) (boards ++ others)
passes_append g b [] ns boards others none on =
    subst (λ bs. Passes g (board_after b bs) ns others → Passes g b ns (bs ++ others)) (sym none) (λ p. p) on
passes_append g b (m ∷ ms) ns [] others none on = absurd none
passes_append g b (m ∷ ms) ns (c ∷ boards) others (step, rest) on = (step, passes_append g c ms ns boards others rest on)

-- a run passes boards
pub run_passes : (g : GameRules) (b : Board) (ms : List Move) (c : Board) → Run g b ms c → (boards : List Board) × Passes g b ms boards
run_passes g b [] c run = ([], refl)
run_passes g b (m ∷ ms) c (mid, step, run) =
    let others = run_passes g mid ms c run in
    (mid ∷ others.0, (step, others.1))

pub board_after_push : (b : Board) (boards : List Board) (c : Board) → board_after b (boards ++ c ∷ []) ≡ c
board_after_push b [] c = refl
board_after_push b (d ∷ boards) c = board_after_push d boards c

-- no move passes a board
pub no_moves_pass : (g : GameRules) (b : Board) (ms : List Move) (boards : List Board) → ms ≡ [] → Passes g b ms boards → boards ≡ []
no_moves_pass g b [] boards e passed = passed
no_moves_pass g b (m ∷ ms) boards e passed = absurd (cc e)

-- no move spells a token, and no token a move
pub none_spelled : (tokens : List (List ℕ)) (ms : List Move) → ms ≡ [] → SpellMoves tokens ms → tokens ≡ []
none_spelled [] ms e spelled = refl
none_spelled (t ∷ tokens) [] e spelled = absurd spelled
none_spelled (t ∷ tokens) (m ∷ ms) e spelled = absurd (cc e)

pub spelled_length : (tokens : List (List ℕ)) (ms : List Move) → SpellMoves tokens ms → length tokens ≡ length ms
spelled_length [] ms none = sym (ap length none)
spelled_length (t ∷ tokens) [] none = absurd none
spelled_length (t ∷ tokens) (m ∷ ms) (one, others) = omega (arith, spelled_length tokens ms others)

-- the moves of tokens that play are a run
passed_run : (g : GameRules) (b : Board) (tokens : List (List ℕ)) (ms : List Move) (boards : List Board) → SpellMoves tokens ms
    → Passes g b ms boards
    → Run g b ms (board_after b boards) × (length ms ≡ length tokens) × (length boards ≡ length tokens)
passed_run g b [] [] boards none passed = (ap (board_after b) passed, refl, ap length passed)
passed_run g b [] (m ∷ ms) boards none passed = absurd (cc none)
passed_run g b (t ∷ tokens) [] boards none passed = absurd none
passed_run g b (t ∷ tokens) (m ∷ ms) [] spelled none = absurd none
passed_run g b (t ∷ tokens) (m ∷ ms) (c ∷ boards) (one, spelled) (step, passed) =
    let others = passed_run g c tokens ms boards spelled passed in
    ((c, step, others.0), omega (arith, others.1), omega (arith, others.2))

-- as many boards are passed as there are moves
pub passed_length : (g : GameRules) (b : Board) (ms : List Move) (boards : List Board) → Passes g b ms boards → length boards ≡ length ms
passed_length g b [] boards none = ap length none
passed_length g b (m ∷ ms) [] none = absurd none
passed_length g b (m ∷ ms) (c ∷ boards) (one, others) = omega (arith, passed_length g c ms boards others)

pub played_tokens_run : PlayedTokensRun
played_tokens_run g b tokens boards played = passed_run g b tokens played.moves boards played.spelled played.passed
