mod CountLaws
mod DrawLaws
