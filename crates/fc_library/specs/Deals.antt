-- What telling deals promises.
use Rattle.std.specs.Prelude.{◌≡◌, ℕ, None}
use Rattle.fc_deal.specs.Deal.{IsDealNumber, dealt_board}
use Rattle.fc_deal.specs.DealText.{deal_text}
use Rattle.fc_library.specs.declared.told_answers.Told.{Told}
use Rattle.fc_library.specs.declared.call_refusals.CallRefusal.{CallRefusal}
use Rattle.fc_library.specs.declared.call_refusals.CallRefusal.TheVariants as refused

-- a deal was told: the number is one of a deal, and this is its text
pub record IsDealTold (n : ℕ) (told : Told) : Type 0 where
  pub number : IsDealNumber n
  pub written : told.text.items ≡ deal_text (dealt_board n)
  pub numbers : told.outcome ≡ None
  pub status : told.status ≡ 0
  pub place : told.place ≡ 0

-- why it wasn't: the number is no deal's, or memory was wanted
abbrev pub IsDealRefused : ℕ → CallRefusal → Type 0
IsDealRefused number refused.Deal = IsDealNumber number → ⊥
IsDealRefused number refused.Memory = IsDealNumber number
IsDealRefused number other = ⊥
