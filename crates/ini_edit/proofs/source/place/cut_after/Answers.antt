use Rattle.std.proofs.Common.{◌∙◌, ap, chars}
use Rattle.ini_edit.proofs.GapPlaceLemmas.{cut_boundary, cut_front, cut_rest}
use Rattle.ini_edit.proofs.source.place.cut_after.Goals as goal

pub split_at-requires : goal.split_at-requires
split_at-requires c = cut_boundary c.args.text.now c.args.front.now _ c.utf8.text c.utf8.front c.requires

pub returns : goal.returns
returns c =
    let text = c.args.text.now in
    let front = c.args.front.now in
    record {
      front = ap chars
          (c.split_at.ensures.front ∙ cut_front text front _ c.utf8.text c.utf8.front c.requires);
      rest = ap chars c.split_at.ensures.back ∙ cut_rest text front _ c.utf8.text c.utf8.front c.requires;
    }
