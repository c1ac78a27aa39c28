-- What is read of a link.
use Rattle.std.proofs.Common.{◌≡◌, ℕ, ◌<◌, false, List, length, get_or, None, ◌∙◌}
use Rattle.std.proofs.lemmas.List.{get_or_default}
use Rattle.rings.specs.declared.links.Link.{Link}
use Rattle.rings.specs.Links.{link_at}

pub link_read : (links : List Link) (w : ℕ) (x : Link) → x ≡ get_or links w x → w < length links → x ≡ link_at links w
link_read links w x e lt = e ∙ get_or_default links w x (record { own = false; letter = None }) lt
