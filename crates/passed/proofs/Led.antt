-- Where an operation leads is told by one result alone. Assumes nothing.
use mathlib.Core.Path.{◌≡◌, refl, sym, ap, ◌∙◌}
use Rattle.std.specs.Prelude.{Result, Ok, Err}
use Rattle.answers.specs.declared.Refusal.{Refusal}
use Rattle.answers.proofs.Refusals.{said, said_number}
use Rattle.passed.specs.declared.Next.{Next}
use Rattle.passed.specs.declared.Next.TheVariants as nexts
use Rattle.passed.specs.Does.{Led, Stay, Down, Up, Refused, leading}

abbrev unled : Led → Result Next Refusal
unled (Stay s b) = Ok (nexts.Stay s b)
unled (Down s) = Ok (nexts.Down s)
unled Up = Ok nexts.Up
unled (Refused n) = said n nexts.Up

unled_back : (r : Result Next Refusal) → unled (leading r) ≡ r
unled_back (Ok (nexts.Stay s b)) = refl
unled_back (Ok (nexts.Down s)) = refl
unled_back (Ok nexts.Up) = refl
unled_back (Err r) = said_number r nexts.Up

pub one_led : {r q : Result Next Refusal} → leading r ≡ leading q → r ≡ q
one_led {r} {q} h = sym (unled_back r) ∙ (ap unled h ∙ unled_back q)
