use Rattle.literal_law.proofs.Bodies.{text_of_pieces, spelled_by_pieces, one_way}
use Rattle.literal_law.proofs.bodies_fall_into_items.Goals as goal

pub returns : goal.returns
returns c = record { text = text_of_pieces; spelling = spelled_by_pieces; one_way = one_way }
