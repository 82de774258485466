-- What is known of the objects, properties, priorities and networks in requests: all that a decoder gives, or nothing.
use Rattle.std.proofs.Common.{◌≡◌, ℕ, ◌≤◌, List, [], ◌∷◌, Ok}
use Rattle.std.specs.Prelude.{⊤}
use Rattle.std.specs.List.{AllByRecursion}
use Rattle.gw_addr.specs.Reading.{AreOctets}
use Rattle.gw_codecs.specs.apdu.Apdu.{Fields as Apdu}
use Rattle.gw_codecs.specs.apdu.Reading.{apdu_at}
use Rattle.gw_codecs.specs.services.Limits.{priority_of}
use Rattle.gw_codecs.specs.services.Multi.{Reference}
use Rattle.gw_codecs.specs.services.MultiReading.{multi_at}
use Rattle.gw_codecs.specs.services.Read.{Read, read_at}
use Rattle.gw_codecs.specs.services.WhoHas.{Sought, WhoHas, the_name, the_object, who_has_at}
use Rattle.gw_codecs.specs.services.Write.{Write, write_at}
use Rattle.gw_codecs.specs.tags.Object.{IsObject, Object}
use Rattle.gw_verdicts.proofs.Octets.{AreNamed, IsRank as IsPriority, IsSoughtBy, apdu_rest, multi_names, read_names, who_has_names, write_names}

-- predicates, and that what is read of octets has them
pub record Known : Type 1 where
  pub IsText : List ℕ → Type 0
  pub IsThing : Object → Type 0
  pub IsNamed : Object → ℕ → Type 0
  pub IsRank : ℕ → Type 0
  pub IsNet : ℕ → Type 0
  pub rest : (octets : List ℕ) (a : Apdu) → IsText octets → apdu_at octets ≡ Ok a → IsText a.rest
  pub read : (body : List ℕ) (r : Read) → IsText body → read_at body ≡ Ok r → IsNamed r.object r.property
  pub multi : (body : List ℕ) (rs : List Reference) → IsText body → multi_at body ≡ Ok rs → AllByRecursion (λ r. IsNamed r.object r.property) rs
  pub write : (body : List ℕ) (w : Write) → IsText body → write_at body ≡ Ok w → IsNamed w.object w.property × IsRank (priority_of w.priority)
  pub who_has : (body : List ℕ) (w : WhoHas) → IsText body → who_has_at body ≡ Ok w → IsSoughtBy IsThing w.sought

-- nothing
pub each_unknown : (rs : List Reference) → AllByRecursion (λ r. ⊤) rs
each_unknown [] = tt
each_unknown (r ∷ rs) = (tt, each_unknown rs)

pub sought_unknown : (s : Sought) → IsSoughtBy (λ o. ⊤) s
sought_unknown (the_object o) = tt
sought_unknown (the_name charset name) = tt

abbrev pub nothing_known : Known
nothing_known = record {
  IsText = λ octets. ⊤;
  IsThing = λ o. ⊤;
  IsNamed = λ o p. ⊤;
  IsRank = λ n. ⊤;
  IsNet = λ n. ⊤;
  rest = λ octets a fits e. tt;
  read = λ body r fits e. tt;
  multi = λ body rs fits e. each_unknown rs;
  write = λ body w fits e. (tt, tt);
  who_has = λ body w fits e. sought_unknown w.sought;
}

-- the bounds of what octets carry
abbrev pub bounds_known : Known
bounds_known = record {
  IsText = AreOctets;
  IsThing = IsObject;
  IsNamed = AreNamed;
  IsRank = IsPriority;
  IsNet = λ n. (1 ≤ n) × (n ≤ 65534);
  rest = apdu_rest;
  read = read_names;
  multi = multi_names;
  write = write_names;
  who_has = who_has_names;
}
