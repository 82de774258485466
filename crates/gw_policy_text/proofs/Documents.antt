-- Which texts are documents.
use Rattle.std.proofs.Common.{◌≡◌, Bool, true, false, List, ℕ, Some, None, Ok, Err, refl, sym, ap, ◌∙◌}
use Rattle.std.specs.Str.{IsUtf8, is_utf8}
use Rattle.std.proofs.lemmas.Str.{IsUtf8-from_is_utf8, is_utf8-from_IsUtf8}
use Rattle.toml.specs.Data.{Members}
use Rattle.toml.specs.Parse.{parse_document}
use Rattle.gw_configuration.specs.declared.fault.ConfigFault.TheVariants.{NotToml}
use Rattle.gw_policy_text.specs.Document.{document}

not_utf8 : (text : List ℕ) → ¬ (IsUtf8 text) → is_utf8 text ≡ false
not_utf8 text bad = on (is_utf8 text) refl
  where
    on : (b : Bool) → is_utf8 text ≡ b → b ≡ false
    on true e = absurd (bad (IsUtf8-from_is_utf8 text e))
    on false e = refl

pub no_text : (text : List ℕ) → ¬ (IsUtf8 text) → document text ≡ Err NotToml
no_text text bad = rw (not_utf8 text bad) refl

pub is_document : (text s : List ℕ) (t : Members) → s ≡ text → IsUtf8 text → parse_document s ≡ Some t → document text ≡ Ok t
is_document text s t same is parsed = let p : parse_document text ≡ Some t = ap parse_document (sym same) ∙ parsed in rw (is_utf8-from_IsUtf8 text is, p) refl

pub no_document : (text s : List ℕ) → s ≡ text → IsUtf8 text → parse_document s ≡ None → document text ≡ Err NotToml
no_document text s same is parsed = let p : parse_document text ≡ None = ap parse_document (sym same) ∙ parsed in rw (is_utf8-from_IsUtf8 text is, p) refl
