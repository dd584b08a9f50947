-- The way to one of the last boards, back through the layers, and the moves along it.
use Rattle.std.proofs.Common.{arith, ◌≡◌, ℕ, ◌+◌, ◌-◌, ◌<◌, ◌≤◌, zero, suc, List, [], ◌∷◌, ◌++◌, length, take, drop, reverse, Some, None, refl, sym, ◌∙◌, ap, subst, length-append}
use Rattle.std.specs.Prelude.{slice_get, get_or}
use Rattle.std.proofs.lemmas.List.{drop_all, take_all, reverse-append}
use Rattle.std.proofs.lemmas.Option.{slice_get_within, slice_get-get_or, get_or_from_slice_get}
use Rattle.fc_cards.specs.declared.places.Place.TheVariants.{Home}
use Rattle.fc_position.specs.Board.{Board}
use Rattle.fc_moves.specs.declared.steps.Move.{Move}
use Rattle.fc_moves.specs.GameRules.{GameRules}
use Rattle.fc_sequences.specs.declared.layers.Layer.{Layer}
use Rattle.fc_sequences.specs.declared.pairs.Pair.{Pair}
use Rattle.fc_sequences.specs.Carry.{AddsRun}
use Rattle.fc_sequences.specs.Pair.{PlaysBy, moves_for}
use Rattle.fc_sequences.specs.Following.{Expands}
use Rattle.fc_sequences.specs.inner.Layers.{AreLinked, PlaysAll, link_at}
use Rattle.fc_sequences.proofs.EndLemmas.{linked_long, linked_pop}
use Rattle.fc_sequences.proofs.FollowLemmas.{expands_push}
use Rattle.fc_sequences.proofs.GetLemmas.{take_next}
use Rattle.fc_sequences.proofs.GrowLemmas.{plays_once}

-- an entry, whichever
abbrev pub any_pair : Pair
any_pair = record { from = Home; to = Home; count = None }

-- the element of a place, and those behind it
pub drop_next : {X : Type 0} (xs : List X) (n : ℕ) (x : X) → slice_get xs n ≡ Some x → drop n xs ≡ x ∷ drop (suc n) xs
drop_next [] n x e = absurd (cc e)
drop_next (z ∷ zs) zero x e = ap (λ y. y ∷ zs) (cc e)
drop_next (z ∷ zs) (suc n) x e = drop_next zs n x e

-- from a board of a layer the entries behind it lead by these numbers of cards to the last one
pub record IsBack (g : GameRules) (b : Board) (ps : List Pair) (layers : List Layer) (c : Board) (n place : ℕ) (ks : List ℕ) : Type 0 where
  pub boards : List Board
  pub board : Board
  pub linked : AreLinked g (b ∷ []) (take n ps) (take n layers) boards
  pub stands : slice_get boards place ≡ Some board
  pub plays : PlaysAll g board (drop n ps) ks c

-- at the end
pub back_first : (g : GameRules) (b : Board) (ps : List Pair) (layers : List Layer) (boards : List Board) (c : Board) (n place : ℕ) (ks : List ℕ)
    → AreLinked g (b ∷ []) ps layers boards → slice_get boards place ≡ Some c → n ≡ length layers → ks ≡ [] → IsBack g b ps layers c n place ks
back_first g b ps layers boards c n place ks linked stands all none =
    let long = linked_long g (b ∷ []) boards ps layers linked in record {
      boards = boards;
      board = c;
      linked = subst (λ l. AreLinked g (b ∷ []) l (take n layers) boards) (sym (take_all n ps (omega (arith, long, all))))
          (subst (λ l. AreLinked g (b ∷ []) ps l boards) (sym (take_all n layers (omega (arith, all)))) linked);
      stands = stands;
      plays = subst (λ l. PlaysAll g c l ks c) (sym (drop_all n ps (omega (arith, long, all)))) (subst (λ l. PlaysAll g c [] l c) (sym none) refl);
    }

-- the layer of the board tells from which it came
pub back_links : (g : GameRules) (b : Board) (ps : List Pair) (layers : List Layer) (c : Board) (n place : ℕ) (ks : List ℕ) (layer : Layer)
    → IsBack g b ps layers c (suc n) place ks → slice_get layers n ≡ Some layer → length ps ≡ length layers
    → (parent : ℕ) × (count : ℕ) × (link_at layer place ≡ Some (parent, count)) × IsBack g b ps layers c n parent (count ∷ ks)
back_links g b ps layers c n place ks layer back stands long =
    let within = slice_get_within layers n layer stands in
    let pair : Pair = get_or ps n any_pair in
    let entry : slice_get ps n ≡ Some pair = slice_get-get_or ps n any_pair (omega (arith, long, within)) in
    let linked : AreLinked g (b ∷ []) (take n ps ++ pair ∷ []) (take n layers ++ layer ∷ []) back.boards =
    subst (λ l. AreLinked g (b ∷ []) l (take n layers ++ layer ∷ []) back.boards) (take_next ps n pair entry)
    (subst (λ l. AreLinked g (b ∷ []) (take (suc n) ps) l back.boards) (take_next layers n layer stands) back.linked) in
    let before = linked_pop g (b ∷ []) back.boards (take n ps) (take n layers) pair layer linked in
    let came = before.2 place back.board back.stands in (
      came.0,
      came.1,
      came.3,
      record {
        boards = before.0;
        board = came.2;
        linked = before.1;
        stands = came.4;
        plays = subst (λ l. PlaysAll g came.2 l (came.1 ∷ ks) c) (sym (drop_next ps n pair entry)) (back.board, came.5, back.plays);
      },
    )

-- the only board of a layer
only_board : (b : Board) (i : ℕ) (d : Board) → slice_get (b ∷ []) i ≡ Some d → b ≡ d
only_board b zero d e = cc e
only_board b (suc i) d e = absurd (cc e)

-- at the beginning
pub back_last : (g : GameRules) (b : Board) (ps : List Pair) (layers : List Layer) (c : Board) (place : ℕ) (ks : List ℕ)
    → IsBack g b ps layers c 0 place ks → PlaysAll g b ps ks c
back_last g b ps layers c place ks back =
    let first : slice_get (b ∷ []) place ≡ Some back.board = subst (λ l. slice_get l place ≡ Some back.board) back.linked back.stands in
    subst (λ d. PlaysAll g d ps ks c) (sym (only_board b place back.board first)) back.plays

-- a number of cards for each entry
pub plays_long : (g : GameRules) (b : Board) (ps : List Pair) (ks : List ℕ) (c : Board) → PlaysAll g b ps ks c → length ks ≡ length ps
plays_long g b [] [] c plays = refl
plays_long g b (p ∷ ps) (k ∷ ks) c (mid, one, rest) = ap suc (plays_long g mid ps ks c rest)
plays_long g b [] (k ∷ ks) c none = absurd none
plays_long g b (p ∷ ps) [] c none = absurd none

-- what the next entry is played by
pub plays_next : (g : GameRules) (b : Board) (ps : List Pair) (ks : List ℕ) (c : Board) (n : ℕ) (p : Pair) (k : ℕ) → PlaysAll g b (drop n ps) (drop n ks) c
    → slice_get ps n ≡ Some p → slice_get ks n ≡ Some k → (mid : Board) × PlaysBy g b p k mid × PlaysAll g mid (drop (suc n) ps) (drop (suc n) ks) c
plays_next g b ps ks c n p k plays entry number =
    subst (λ l. PlaysAll g b l (k ∷ drop (suc n) ks) c) (drop_next ps n p entry)
    (subst (λ l. PlaysAll g b (drop n ps) l c) (drop_next ks n k number) plays)

-- before the first entry
pub along_first : (g : GameRules) (b here c : Board) (ps : List Pair) (ks : List ℕ) (ms : List Move) → PlaysAll g b ps ks c → here ≡ b → ms ≡ []
    → Expands g b (take 0 ps) ms here × PlaysAll g here (drop 0 ps) (drop 0 ks) c
along_first g b here c ps ks ms plays same none = ((none, same), subst (λ d. PlaysAll g d ps ks c) (sym same) plays)

-- the moves of one entry more
pub along_next : (g : GameRules) (b here there c : Board) (ps : List Pair) (ks : List ℕ) (n : ℕ) (p : Pair) (k : ℕ) (old new : List Move)
    → Expands g b (take n ps) old here → PlaysAll g here (drop n ps) (drop n ks) c → slice_get ps n ≡ Some p → slice_get ks n ≡ Some k
    → PlaysBy g here p k there → AddsRun g here old there new → length new ≡ length old + moves_for g here p.from p.to k
    → Expands g b (take (n + 1) ps) new there × PlaysAll g there (drop (n + 1) ps) (drop (n + 1) ks) c
along_next g b here there c ps ks n p k old new expanded plays entry number played (front, parts, run) count =
    let more : n + 1 ≡ suc n = omega arith in
    let next = plays_next g here ps ks c n p k plays entry number in
    let same : next.0 ≡ there = plays_once g here p k next.0 there next.1 played in (
      subst (λ l. Expands g b l new there) (sym (ap (λ i. take i ps) more ∙ take_next ps n p entry))
          (subst (λ l. Expands g b (take n ps ++ p ∷ []) l there) (sym parts)
          (expands_push g b here there (take n ps) p k old front expanded played run
          (omega (arith, count, ap length parts, length-append old front)))),
      subst (λ i. PlaysAll g there (drop i ps) (drop i ks) c) (sym more) (subst (λ d. PlaysAll g d (drop (suc n) ps) (drop (suc n) ks) c) same next.2),
    )

-- all entries were played
pub along_last : (g : GameRules) (b here c : Board) (ps : List Pair) (ks : List ℕ) (n : ℕ) (ms : List Move)
    → Expands g b (take n ps) ms here → PlaysAll g here (drop n ps) (drop n ks) c → length ps ≤ n → length ks ≡ length ps → Expands g b ps ms c
along_last g b here c ps ks n ms expanded plays all long =
    let end : PlaysAll g here [] [] c = subst (λ l. PlaysAll g here l [] c) (drop_all n ps all)
    (subst (λ l. PlaysAll g here (drop n ps) l c) (drop_all n ks (omega (arith, all, long))) plays) in
    subst (Expands g b ps ms) (sym end) (subst (λ l. Expands g b l ms here) (take_all n ps all) expanded)
