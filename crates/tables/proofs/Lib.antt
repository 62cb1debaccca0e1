mod HalvingLaws
mod RisenLaws
mod SearchLaws
